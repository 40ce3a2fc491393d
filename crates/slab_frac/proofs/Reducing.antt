-- What makes a fraction in lowest terms the exact result, or shows that none is in range.
use Rattle.std.proofs.Common.{◌≡◌, ℕ, zero, suc, ◌*◌, ◌/◌, ◌^◌, ◌<◌, ◌≤◌, ◌⊎◌, inl, inr, arith, refl, ap, sym, subst, ◌∙◌, Option, Some, None, lit≤}
use Rattle.std.specs.Prelude.{ℤ, pos, negsuc, neg_ℤ, ◌-ℤ◌, ◌*ℤ◌, unsigned_abs}
use Rattle.std.specs.Int.{IsGcd}
use Prim.Native.Nat.{◌∣◌}
use native.Mathlib.Nat.{mul-div_cancel', pos_of_dvd_of_pos, dvd-mul_left, eq_of_mul-eq-mul_left, one-dvd}
use Rattle.std.proofs.lemmas.Int.{ints, unsigned_abs-mul}
use Rattle.slab_frac.specs.Fraction.{Fraction, IsInRange, IsSameNumber, IsReduced, IsKept, IsExactly, IsOutOfRange, signed_like, whole_of}
use Rattle.slab_frac.specs.Lowest.{AreLowest}
use Rattle.slab_frac.proofs.Gcd.{least_parts, coprime_after}
use Rattle.slab_frac.proofs.Ring.{mul_assoc_int, mul_swap_int, mul_cancel_pos}

pub abs-signed_like : (z : ℤ) (n : ℕ) → unsigned_abs (signed_like z (pos n)) ≡ n
abs-signed_like (pos _) n = refl
abs-signed_like (negsuc _) zero = refl
abs-signed_like (negsuc _) (suc n) = refl

pub gcd_pos : (n den g : ℕ) → 0 < den → IsGcd n den g → 0 < g
gcd_pos n den g p h = pos_of_dvd_of_pos h.1 p

-- the two quotients by the greatest common divisor
pub lowest_by : (n m g : ℕ) → IsGcd n m g → AreLowest n m (n / g) (m / g)
lowest_by n m g h =
    record { shared = g; greatest = h; top = mul-div_cancel' g h.0; bottom = mul-div_cancel' g h.1 }

-- what is left is above 0 below, and shares nothing
pub lowest_coprime : (n den a b : ℕ) → 0 < den → AreLowest n den a b → (0 < b) × IsGcd a b 1
lowest_coprime n den a b p l = (
  pos_of_dvd_of_pos (subst (λ (x : ℕ). b ∣ x) l.bottom (dvd-mul_left b l.shared)) p,
  coprime_after a b l.shared (gcd_pos n den l.shared p l.greatest)
      (subst (λ (x : ℕ). IsGcd x (l.shared * b) l.shared) (sym l.top) (subst (λ (y : ℕ). IsGcd n y l.shared) (sym l.bottom) l.greatest)),
)

-- the signed numerator over b is the number z over den
swapped : (k den g a b : ℕ) → g * a ≡ k → g * b ≡ den → k * b ≡ a * den
swapped k den g a b top bottom = ap (λ x. x * b) (sym top) ∙ between ∙ ap (λ x. a * x) bottom
  where
    between : g * a * b ≡ a * (g * b)
    between = omega arith

neg-mul : (a d : ℕ) → neg_ℤ (pos a) *ℤ pos d ≡ neg_ℤ (pos (a * d))
neg-mul zero d = let e : 0 * d ≡ 0 = omega arith in rw e refl
neg-mul (suc a) d = refl

same_after : (z : ℤ) (den g a b : ℕ) → g * a ≡ unsigned_abs z → g * b ≡ den → z *ℤ pos b ≡ signed_like z (pos a) *ℤ pos den
same_after (pos k) den g a b top bottom = ap pos (swapped k den g a b top bottom)
same_after (negsuc k) den g a b top bottom =
    ap (λ (n : ℕ). neg_ℤ (pos n)) (swapped (suc k) den g a b top bottom) ∙ sym (neg-mul a den)

-- (z, den) in lowest terms
pub reduced_value : (z r : ℤ) (den a b : ℕ) → 0 < den → AreLowest (unsigned_abs z) den a b → r ≡ signed_like z (pos a) → IsReduced (record { num = z; den = den }) (record { num = r; den = b })
reduced_value z r den a b p l s =
    let low : (0 < b) × IsGcd a b 1 = lowest_coprime (unsigned_abs z) den a b p l in
    let size : unsigned_abs r ≡ a = ap unsigned_abs s ∙ abs-signed_like z a in
    record {
      same = same_after z den l.shared a b l.top l.bottom ∙ ap (λ (x : ℤ). x *ℤ pos den) (sym s);
      lowest = record { positive = low.0; coprime = subst (λ (x : ℕ). IsGcd x b 1) (sym size) low.1 };
    }

regroup_left : (g a d : ℕ) → g * (a * d) ≡ g * a * d
regroup_left g a d = omega arith

regroup_right : (g b c : ℕ) → c * (g * b) ≡ g * (c * b)
regroup_right g b c = omega arith

mul_cancel_left : (g x y : ℕ) → 0 < g → g * x ≡ g * y → x ≡ y
mul_cancel_left g x y p e = eq_of_mul-eq-mul_left g p x y e

-- a fraction equal to (z, den) has no smaller parts than the lowest
pub out_of_range : (z : ℤ) (den a b : ℕ) → 0 < den → AreLowest (unsigned_abs z) den a b → (2 ^ 62 < a) ⊎ (2 ^ 62 < b) → IsOutOfRange (record { num = z; den = den })
out_of_range z den a b p l far f same kept =
    let low : (0 < b) × IsGcd a b 1 = lowest_coprime (unsigned_abs z) den a b p l in
    let sizes : unsigned_abs z * f.den ≡ unsigned_abs f.num * den =
    sym (unsigned_abs-mul z (pos f.den)) ∙ ap unsigned_abs same.same ∙ unsigned_abs-mul f.num (pos den) in
    let above : 0 < l.shared = gcd_pos (unsigned_abs z) den l.shared p l.greatest in
    let scaled : l.shared * (a * f.den) ≡ l.shared * (unsigned_abs f.num * b) =
    regroup_left l.shared a f.den ∙ ap (λ x. x * f.den) l.top ∙ sizes ∙ ap (λ x. unsigned_abs f.num * x) (sym l.bottom) ∙ regroup_right l.shared b (unsigned_abs f.num) in
    let least : (a ≤ unsigned_abs f.num) × (b ≤ f.den) =
    least_parts a b (unsigned_abs f.num) f.den low.1 same.lowest.positive (mul_cancel_left l.shared (a * f.den) (unsigned_abs f.num * b) above scaled)
    in
    elim far [ inl above ↦ omega (arith, kept.num, least.0) | inr above ↦ omega (arith, kept.den, least.1) ]

-- the fraction that the code makes
pub reduced_kept : (z r : ℤ) (den a b : ℕ) → 0 < den → AreLowest (unsigned_abs z) den a b → r ≡ signed_like z (pos a) → a ≤ 2 ^ 62 → b ≤ 2 ^ 62 → IsReduced (record { num = z; den = den }) (record { num = r; den = b }) × IsInRange (record { num = r; den = b })
reduced_kept z r den a b p l s top bottom =
    let size : unsigned_abs r ≡ a = ap unsigned_abs s ∙ abs-signed_like z a in
    (reduced_value z r den a b p l s, record { num = subst (λ (x : ℕ). x ≤ 2 ^ 62) (sym size) top; den = bottom })

pub whole_kept : (z : ℤ) → unsigned_abs z ≤ 2 ^ 62 → IsKept (whole_of z)
whole_kept z h =
    record {
      lowest = record { positive = omega arith; coprime = (one-dvd (unsigned_abs z), one-dvd 1, λ d u v. v) };
      in_range = record { num = h; den = lit≤ tt };
    }
