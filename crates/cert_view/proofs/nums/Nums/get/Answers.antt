use Rattle.std.proofs.Common.{rules}
use Rattle.std.proofs.lemmas.Int.{to_z-of_z}
use mir.Val.{SFits}
use mir.Syntax.{w64}
use Rattle.cert_view.specs.Number.{IsWithin}
use Rattle.cert_view.specs.Numbers.{numbers_of}
use Rattle.cert_view.proofs.Words.{all_within, holds_at}
use Rattle.cert_view.proofs.nums.Nums.get.Goals as goal

pub returns-clause-within : goal.returns-clause-within
returns-clause-within c =
    let fits : SFits w64 c.number_at.result = search rules in
    let here : IsWithin c.number_at.result = holds_at IsWithin (numbers_of c.self.inside.bytes.now) c.args.i c.number_at.result (all_within c.self.inside.bytes.now c.self.invariant.spelled) c.number_at.ensures in
    rw to_z-of_z here
