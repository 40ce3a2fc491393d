use Rattle.std.proofs.Common.{◌≡◌, ℕ, ◌*◌, ◌-◌, ◌^◌, ◌≤◌, ℤ, pos, negsuc, ◌*ℤ◌, ◌≤ℤ◌, false, refl, sym, ap, ap₂, ◌∙◌, subst, arith, to_z, of_z, unsigned_abs}
use Rattle.std.specs.Prelude.{FitsSigned}
use Rattle.std.specs.Int.{w64, w128}
use lib.Signed.{lt_z}
use Rattle.std.proofs.lemmas.Int.{ints, unsigned_abs-mul}
use Rattle.std.proofs.lemmas.Nat.{mul-le}
use Rattle.mill_model.specs.Columns.{size_of, load}
use Rattle.slab_tree.proofs.keeping.share_loss.Goals as goal

-- a multiplier that isn't negative times a loss, as it was computed
product : (times : ℤ) (loss : ℕ) (a b : ℤ) → unsigned_abs times ≤ 2 ^ 63 → pos 0 ≤ℤ times → loss ≤ 65535 → a ≡ times → b ≡ pos loss
    → (to_z w128 (of_z w128 (to_z w128 (of_z w128 a) *ℤ to_z w128 (of_z w128 b))) ≡ pos (unsigned_abs times * loss)) × (unsigned_abs (to_z w128 (of_z w128 (to_z w128 (of_z w128 a) *ℤ to_z w128 (of_z w128 b)))) ≤ 2 ^ 80)
product (negsuc k) loss a b small sign le e f = absurd (omega (arith, ints))
product (pos k) loss a b small sign le e f =
    let first : to_z w128 (of_z w128 a) ≡ pos k = omega (arith, ints) in
    let second : to_z w128 (of_z w128 b) ≡ pos loss = omega (arith, ints) in
    let most : k * loss ≤ 2 ^ 63 * 65535 = mul-le k loss (2 ^ 63) 65535 small le in
    let whole : to_z w128 (of_z w128 (to_z w128 (of_z w128 a) *ℤ to_z w128 (of_z w128 b))) ≡ pos (k * loss) = ap (λ z. to_z w128 (of_z w128 z)) (ap₂ (λ x y. x *ℤ y) first second) ∙ back (k * loss) most in
    (whole, subst (λ z. unsigned_abs z ≤ 2 ^ 80) (sym whole) (omega (arith, most)))
  where
    back : (n : ℕ) → n ≤ 2 ^ 63 * 65535 → to_z w128 (of_z w128 (pos n)) ≡ pos n
    back n h = omega (arith, ints)

fits_small : (z : ℤ) → FitsSigned w64 z → (unsigned_abs z ≤ 2 ^ 63) × (to_z w64 (of_z w64 z) ≡ z)
fits_small z h = (omega (arith, ints, h), omega (arith, ints, h))

not_negative : (z w : ℤ) → w ≡ z → lt_z w (pos 0) ≡ false → pos 0 ≤ℤ z
not_negative z w e h = subst (λ x. pos 0 ≤ℤ x) e (by w h)
  where
    by : (w : ℤ) → lt_z w (pos 0) ≡ false → pos 0 ≤ℤ w
    by w h = grind (arith, ints)

pub returns : goal.returns
returns c =
    let fits : FitsSigned w64 c.times-times.result = record { sfits = c.times-times.type_inv } in
    let small = fits_small c.times-times.result fits in
    let sign : pos 0 ≤ℤ c.times-times.result = not_negative c.times-times.result (to_z w64 (of_z w64 c.times-times.result)) small.1 c.if-times-lt0.false in
    let p = product c.times-times.result c.saturating_sub.result c.from.result c.from-2.result small.0 sign (omega (arith, c.saturating_sub.ensures, c.in_ok-size.ensures.1)) (c.from.ensures ∙ small.1) c.from-2.ensures in
    (p.0 ∙ ap₂ (λ t l. pos (unsigned_abs t * l)) c.times-times.ensures (c.saturating_sub.ensures ∙ ap₂ (λ s l. s - l) (c.in_ok-size.ensures.0 ∙ ap (λ k. size_of c.args.mill.now k) c.kind.ensures) (c.in_ok-load.ensures ∙ ap (λ os. load c.args.mill.now os) c.orders.ensures)), p.1)
