use Rattle.std.proofs.Common.{◌≡◌, ◌∙◌, sym, rules, arith}
use Rattle.std.proofs.lemmas.Int.{to_z-of_z}
use mir.Val.{SFits}
use mir.Syntax.{w64}
use Rattle.cert_view.specs.Numbers.{numbers_of}
use Rattle.cert_view.proofs.Words.{drop_next}
use Rattle.cert_view.proofs.nums.number_at.Goals as goal

pub loop-skipped-preserved : goal.loop-skipped-preserved
loop-skipped-preserved c = (c.next_number.ensures.spelled, sym (drop_next (numbers_of c.args.bytes.now) c.loop-skipped._skipped c.next_number.result.0 (numbers_of c.next_number.result.1.now) (sym c.loop-skipped.invariant.1 ∙ c.next_number.ensures.numbers)).1)

pub returns : goal.returns
returns c =
    let fits : SFits w64 c.next_number-number.result.0 = search rules in
    let here : c.loop-skipped._skipped ≡ c.args.i = omega arith in
    rw (to_z-of_z, ← here) (drop_next (numbers_of c.args.bytes.now) c.loop-skipped._skipped c.next_number-number.result.0 (numbers_of c.next_number-number.result.1.now) (sym c.loop-skipped.invariant.1 ∙ c.next_number-number.ensures.numbers)).0
