use Rattle.std.proofs.lemmas.List.Elements.{All-from_recursion}
use Rattle.cert_view.specs.Number.{IsWithin}
use Rattle.cert_view.proofs.Words.{all_within}
use Rattle.cert_view.proofs.nums.Nums.copy_to.Goals as goal

pub returns-clause-within : goal.returns-clause-within
returns-clause-within c =
    All-from_recursion IsWithin c.args.self.now (rw (← c.self.view_is) (all_within c.self.inside.bytes.now c.self.invariant.spelled))
