use Rattle.std.proofs.Common.{rules, arith, subst, get_or}
use Rattle.std.specs.Prelude.{ℤ, pos, ◌≤ℤ◌, FitsSigned, All}
use Rattle.std.specs.Int.{w64}
use Rattle.std.proofs.lemmas.Int.{ints}
use Rattle.std.proofs.lemmas.List.{take_all}
use Rattle.std.proofs.lemmas.List.Elements.{All-more}
use Rattle.slab_master.proofs.check.none_negative.Goals as goal

pub loop-number-preserved : goal.loop-number-preserved
loop-number-preserved c =
    let number : ℤ = get_or c.args.numbers.now c.loop-number.number-index (pos 0) in
    let fits : FitsSigned w64 number = search rules in
    All-more (λ (k : ℤ). pos 0 ≤ℤ k) c.args.numbers.now c.loop-number.number-index (pos 0) c.loop-number-test.true c.loop-number.invariant
    (omega (arith, ints, c.if-number-lt0.false))

pub returns : goal.returns
returns c holds =
    subst (All (λ (k : ℤ). pos 0 ≤ℤ k)) (take_all c.loop-number.number-index c.args.numbers.now (omega arith)) c.loop-number.invariant
