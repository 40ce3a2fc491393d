use Rattle.std.proofs.Common.{arith, ◌≡◌, ap, sym, ◌∙◌}
use Rattle.std.specs.Prelude.{pos, unsigned_abs, FitsSigned}
use Rattle.std.specs.Int.{w64, w128}
use Rattle.std.proofs.lemmas.Bool.{eqb-true}
use Rattle.std.proofs.lemmas.Int.{ints, to_z-of_z}
use Rattle.slab_master.proofs.Ratios.{one_number}
use Rattle.slab_master.proofs.check_least.is_one_number.Goals as goal

pub returns-then-left-below : goal.returns-then-left-below
returns-then-left-below c holds =
    let left_fits : FitsSigned w128 c.args.left = c.ranges.left in
    let right_fits : FitsSigned w128 c.args.right = c.ranges.right in
    let below_fits : FitsSigned w64 c.args.denominator = c.ranges.denominator in
    let other_fits : FitsSigned w64 c.args.other = c.ranges.other in
    let left : c.args.left ≡ pos (unsigned_abs c.args.left) = omega (arith, ints, c.if-left-lt0.false) in
    let right : c.args.right ≡ pos (unsigned_abs c.args.right) = omega (arith, ints, c.if-right-lt0.false) in
    let below : c.unsigned_abs-below.result ≡ unsigned_abs c.args.denominator = simp to_z-of_z at c.unsigned_abs-below.ensures.value in
    let other : c.unsigned_abs-other_below.result ≡ unsigned_abs c.args.other = simp to_z-of_z at c.unsigned_abs-other_below.ensures.value in
    one_number _ _ c.unsigned_abs-below.result c.unsigned_abs-other_below.result c.args.left c.args.right c.args.denominator c.args.other
    (left ∙ ap (λ z. pos (unsigned_abs z)) (sym (to_z-of_z w128 c.args.left left_fits)))
    (right ∙ ap (λ z. pos (unsigned_abs z)) (sym (to_z-of_z w128 c.args.right right_fits)))
    (sym c.requires.denominator.1 ∙ ap pos (sym below))
    (sym c.requires.other.1 ∙ ap pos (sym other))
    c.if-left-below.true
    (eqb-true _ _ holds)
