use Rattle.std.proofs.Common.{rules, arith, ◌≡◌, ℕ, ◌<◌, subst, refl, ◌∙◌, to_z, of_z, get_or, length, List, below_more}
use Rattle.std.specs.Prelude.{ℤ, pos, FitsSigned, unsigned_abs}
use Rattle.std.specs.Int.{w64, w128}
use Rattle.std.proofs.lemmas.Int.{to_z-of_z}
use Rattle.std.proofs.lemmas.Grind.{common_steps}
use Rattle.slab_master.specs.Given.{Row, columns_of}
use Rattle.slab_master.specs.Sums.{row_sum}
use Rattle.slab_master.specs.Spread.{Meets}
use Rattle.slab_master.specs.declared.given.Sense.TheVariants.{Equal}
use Rattle.slab_master.proofs.check.rows_hold.Goals as goal

-- the row at a place, whatever stands past the end
row_at : (rows : List Row) (i : ℕ) (a b : Row) → i < length rows → get_or rows i a ≡ get_or rows i b
row_at rows i a b inside = grind (arith, common_steps)

pub loop-i-preserved : goal.loop-i-preserved
loop-i-preserved c j row below =
    let den : ℤ = to_z w64 (of_z w64 c.args.denominator) in
    let fits : FitsSigned w64 c.args.denominator = c.ranges.denominator in
    let total_fits : FitsSigned w128 c.in-Some.total = search rules in
    let meets : Meets (unsigned_abs den) (get_or c.args.rows.now c.loop-i.i (Equal, pos 0)) (to_z w128 (of_z w128 c.in-Some.total)) = c.if-meets.ensures refl in
    let here : Meets (unsigned_abs den) (get_or c.args.rows.now c.loop-i.i row) (row_sum c.args.multipliers.now (columns_of c.args.columns.now) c.loop-i.i) =
    subst (λ (r : Row). Meets (unsigned_abs den) r (row_sum c.args.multipliers.now (columns_of c.args.columns.now) c.loop-i.i)) (row_at c.args.rows.now c.loop-i.i (Equal, pos 0) row c.loop-i-test.true)
    (subst (λ (z : ℤ). Meets (unsigned_abs den) (get_or c.args.rows.now c.loop-i.i (Equal, pos 0)) z) (to_z-of_z w128 c.in-Some.total total_fits ∙ c.in-Some.ensures) meets) in
    below_more (λ (k : ℕ). Meets (unsigned_abs den) (get_or c.args.rows.now k row) (row_sum c.args.multipliers.now (columns_of c.args.columns.now) k)) c.loop-i.i
    (λ k h. c.loop-i.invariant k row h) here j below
