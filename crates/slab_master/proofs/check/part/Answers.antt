use Rattle.std.proofs.Common.{rules, arith, ◌≡◌, ap, sym, ◌∙◌}
use Rattle.std.specs.Prelude.{ℤ, pos, ◌*ℤ◌, FitsSigned}
use Rattle.std.specs.Int.{w64, w128}
use Rattle.std.proofs.lemmas.Int.{ints, to_z-of_z}
use Rattle.slab_master.specs.Sums.{coefficient}
use Rattle.slab_master.proofs.check.part.Goals as goal

zero_left : (a b : ℤ) → a ≡ pos 0 → pos 0 ≡ a *ℤ b
zero_left a b e = (omega (arith, ints)) ∙ ap (λ (z : ℤ). z *ℤ b) (sym e)

pub returns-then-multiplier-eq0 : goal.returns-then-multiplier-eq0
returns-then-multiplier-eq0 c =
    let fits : FitsSigned w64 c.args.multiplier = c.ranges.multiplier in
    zero_left c.args.multiplier (coefficient c.args.column.now c.args.row) (omega (arith, ints, c.if-multiplier-eq0.true))

pub returns : goal.returns
returns c =
    let fits : FitsSigned w64 c.args.multiplier = c.ranges.multiplier in
    let number_fits : FitsSigned w64 c.in_ok-number.number = search rules in
    let term_fits : FitsSigned w128 c.term.result = search rules in
    let product : c.term.result ≡ c.args.multiplier *ℤ c.in_ok-number.number = simp to_z-of_z at c.term.ensures in
    to_z-of_z w128 c.term.result term_fits ∙ product ∙ ap (λ (z : ℤ). c.args.multiplier *ℤ z) c.in_ok-number.ensures
