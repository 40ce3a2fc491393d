-- The ratios of three points, one before the other, and ratios in lowest terms.
use Rattle.std.proofs.Common.{◌≡◌, ℕ, zero, suc, ◌+◌, ◌-◌, ◌*◌, ◌/◌, ◌%◌, ◌<◌, ◌≤◌, arith, refl, ap, ap₂, sym, subst, ◌∙◌, inl, inr}
use Rattle.std.proofs.lemmas.Bool.{cases_lt}
use Rattle.std.specs.Int.{IsGcd}
use Rattle.std.proofs.lemmas.Nat.Gcd.{IsGcd-from_zero, IsGcd-from_mod, dvd_trans, same_from_IsGcd}
use Prim.Native.Nat.{◌∣◌}
use native.Mathlib.Nat.{dvd_of_mul-dvd-mul_left, dvd-mul_right, mul-dvd-mul_left, mod-lt, mul-div_cancel'}
use Rattle.mill_model.specs.declared.sums.Sums.{Sums}
use Rattle.slab_tariff.specs.Ratios.{Ratio, IsSame, IsAtMost, IsBelow, IsLowest}
use Rattle.slab_tariff.specs.Tariffs.{ratio, IsBefore}
use Rattle.slab_tariff.proofs.Order.{trans, same_at_most, below_at_most}

-- ---- below, and at most

pub below_not : (r s : Ratio) → IsBelow r s → IsAtMost s r → ⊥
below_not r s h k = omega (arith, h, k)

pub below_from : (r s : Ratio) → (IsAtMost s r → ⊥) → IsBelow r s
below_from r s h = elim (cases_lt (r.0 * s.1) (s.0 * r.1)) [ inl l ↦ l | inr l ↦ absurd (h l) ]

pub below_before : (r s t : Ratio) → 0 < t.0 + t.1 → IsBelow r s → IsAtMost s t → IsBelow r t
below_before r s t p h k = below_from r t (λ q. below_not r s h (trans s t r p k q))

pub same_both : (r s : Ratio) → IsAtMost r s → IsAtMost s r → IsSame r s
same_both r s h k = omega (arith, h, k)

-- ---- three points

pub before_trans : (x y z : Sums) → IsBefore x y → IsBefore y z → IsBefore x z
before_trans x y z h k = (omega (arith, h.0, k.0), omega (arith, h.1, k.1))

pub not_back : (x y : Sums) → IsBefore x y → IsBefore y x → ⊥
not_back x y h k = omega (arith, h.0, k.0)

pub not_itself : (x y : Sums) → x ≡ y → IsBefore x y → ⊥
not_itself x y e h = differ x.loss y.loss (ap (λ (s : Sums). s.loss) e) h.0
  where
    differ : (a b : ℕ) → a ≡ b → a < b → ⊥
    differ a b p q = omega arith

pub proper_ratio : (x y : Sums) → IsBefore x y → 0 < (ratio x y).0 + (ratio x y).1
proper_ratio x y h = omega (arith, h.0)

-- the ratio of the outer two has the parts of both
sum_of_parts : (x y z : Sums) → IsBefore x y → IsBefore y z → ratio x z ≡ ((ratio x y).0 + (ratio y z).0, (ratio x y).1 + (ratio y z).1)
sum_of_parts x y z h k = λ i. (top i, bottom i)
  where
    top : z.loss - x.loss ≡ (y.loss - x.loss) + (z.loss - y.loss)
    top = omega (arith, h.0, k.0)

    bottom : x.count - z.count ≡ (x.count - y.count) + (y.count - z.count)
    bottom = omega (arith, h.1, k.1)

-- where the outer ratio is at most the first, the second is at most the first
pub second_below_first : (x y z : Sums) → IsBefore x y → IsBefore y z → IsAtMost (ratio x z) (ratio x y) → IsAtMost (ratio y z) (ratio x y)
second_below_first x y z h k q = by (ratio x y).0 (ratio x y).1 (ratio y z).0 (ratio y z).1 (subst (λ (r : Ratio). IsAtMost r (ratio x y)) (sum_of_parts x y z h k) q)
  where
    by : (d e f g : ℕ) → (d + f) * e ≤ d * (e + g) → f * e ≤ d * g
    by d e f g w = omega (arith, w)

-- and at most the outer one
pub second_below_whole : (x y z : Sums) → IsBefore x y → IsBefore y z → IsAtMost (ratio x z) (ratio x y) → IsAtMost (ratio y z) (ratio x z)
second_below_whole x y z h k q =
    subst (λ (r : Ratio). IsAtMost (ratio y z) r) (sym (sum_of_parts x y z h k))
    (by (ratio x y).0 (ratio x y).1 (ratio y z).0 (ratio y z).1 (subst (λ (r : Ratio). IsAtMost r (ratio x y)) (sum_of_parts x y z h k) q))
  where
    by : (d e f g : ℕ) → (d + f) * e ≤ d * (e + g) → f * (e + g) ≤ (d + f) * g
    by d e f g w = omega (arith, w)

-- where the first is at most the second, the outer one is too
pub whole_below_second : (x y z : Sums) → IsBefore x y → IsBefore y z → IsAtMost (ratio x y) (ratio y z) → IsAtMost (ratio x z) (ratio y z)
whole_below_second x y z h k q =
    subst (λ (r : Ratio). IsAtMost r (ratio y z)) (sym (sum_of_parts x y z h k))
    (by (ratio x y).0 (ratio x y).1 (ratio y z).0 (ratio y z).1 q)
  where
    by : (d e f g : ℕ) → d * g ≤ f * e → (d + f) * g ≤ f * (e + g)
    by d e f g w = omega (arith, w)

-- where the first is below the outer one, it is below the second
pub first_below_second : (x y z : Sums) → IsBefore x y → IsBefore y z → IsBelow (ratio x y) (ratio x z) → IsBelow (ratio x y) (ratio y z)
first_below_second x y z h k q = by (ratio x y).0 (ratio x y).1 (ratio y z).0 (ratio y z).1 (subst (λ (r : Ratio). IsBelow (ratio x y) r) (sum_of_parts x y z h k) q)
  where
    by : (d e f g : ℕ) → d * (e + g) < (d + f) * e → d * g < f * e
    by d e f g w = omega (arith, w)

-- ---- lowest terms are one

-- any two numbers have a greatest common divisor
gcd_by : (fuel a b : ℕ) → b < fuel → (g : ℕ) × IsGcd a b g
gcd_by zero a b h = absurd (omega arith)
gcd_by (suc f) a zero h = (a, IsGcd-from_zero a zero refl)
gcd_by (suc f) a (suc b) h =
    let below : a % suc b < suc b = mod-lt a (omega arith) in
    let inner : (g : ℕ) × IsGcd (suc b) (a % suc b) g = gcd_by f (suc b) (a % suc b) (omega arith) in
    (inner.0, IsGcd-from_mod a (suc b) inner.0 inner.1)

-- that of two multiples of k
IsGcd-mul : (k a b g : ℕ) → 0 < k → IsGcd a b g → IsGcd (k * a) (k * b) (k * g)
IsGcd-mul k a b g p h =
    let other : (x : ℕ) × IsGcd (k * a) (k * b) x = gcd_by (suc (k * b)) (k * a) (k * b) (omega arith) in
    let shared : k ∣ other.0 = other.1.2 k (dvd-mul_right k a) (dvd-mul_right k b) in
    let rest : ℕ = other.0 / k in
    let split : k * rest ≡ other.0 = mul-div_cancel' k shared in
    let below : rest ∣ g =
    h.2 rest
    (dvd_of_mul-dvd-mul_left rest p (subst (λ (x : ℕ). x ∣ k * a) (sym split) other.1.0))
    (dvd_of_mul-dvd-mul_left rest p (subst (λ (x : ℕ). x ∣ k * b) (sym split) other.1.1))
    in
    let all : other.0 ∣ k * g = subst (λ (x : ℕ). x ∣ k * g) split (mul-dvd-mul_left rest k below) in (
      mul-dvd-mul_left g k h.0,
      mul-dvd-mul_left g k h.1,
      λ d u v. dvd_trans d (other.1.2 d u v) all,
    )

-- equal ratios in lowest terms have one part below, where neither is 0
one_below : (a b c d : ℕ) → IsGcd a b 1 → IsGcd c d 1 → a * d ≡ c * b → 0 < b → 0 < d → b ≡ d
one_below a b c d h k e p q =
    let first : IsGcd (d * a) (d * b) (d * 1) = IsGcd-mul d a b 1 q h in
    let second : IsGcd (b * c) (b * d) (b * 1) = IsGcd-mul b c d 1 p k in
    let top : b * c ≡ d * a = omega (arith, e) in
    let bottom : b * d ≡ d * b = omega arith in
    let moved : IsGcd (d * a) (d * b) (b * 1) = subst (λ (x : ℕ). IsGcd x (d * b) (b * 1)) top (subst (λ (y : ℕ). IsGcd (b * c) y (b * 1)) bottom second) in
    let one : d * 1 ≡ b * 1 = same_from_IsGcd (d * a) (d * b) (d * 1) (b * 1) first moved in
    omega (arith, one)

-- what has only one common divisor with 0 is 1
one_of_zero : (a : ℕ) → IsGcd a 0 1 → a ≡ 1
one_of_zero a h = same_from_IsGcd a 0 a 1 (IsGcd-from_zero a 0 refl) h

times_cancel : (a c b : ℕ) → 0 < b → a * b ≡ c * b → a ≡ c
times_cancel a c zero p e = absurd (omega arith)
times_cancel zero zero (suc b) p e = refl
times_cancel zero (suc c) (suc b) p e = absurd (omega (arith, e))
times_cancel (suc a) zero (suc b) p e = absurd (omega (arith, e))
times_cancel (suc a) (suc c) (suc b) p e = ap suc (times_cancel a c (suc b) p (omega (arith, e)))

pub one_lowest : (r s : Ratio) → IsLowest r → IsLowest s → IsSame r s → r ≡ s
one_lowest (a, zero) (c, zero) h k e = λ i. ((one_of_zero a h ∙ sym (one_of_zero c k)) i, zero)
one_lowest (a, zero) (c, suc d) h k e = absurd (none a (one_of_zero a h) (omega (arith, e)))
  where
    none : (x : ℕ) → x ≡ 1 → x * suc d ≡ 0 → ⊥
    none x p q = omega (arith, (let same : x * suc d ≡ 1 * suc d = ap (λ (y : ℕ). y * suc d) p in same), q)
one_lowest (a, suc b) (c, zero) h k e = absurd (none c (one_of_zero c k) (omega (arith, e)))
  where
    none : (x : ℕ) → x ≡ 1 → x * suc b ≡ 0 → ⊥
    none x p q = omega (arith, (let same : x * suc b ≡ 1 * suc b = ap (λ (y : ℕ). y * suc b) p in same), q)
one_lowest (a, suc b) (c, suc d) h k e =
    let bottom : suc b ≡ suc d = one_below a (suc b) c (suc d) h k e (omega arith) (omega arith) in
    let top : a * suc b ≡ c * suc b = ap (λ (y : ℕ). a * y) bottom ∙ e in
    λ i. (times_cancel a c (suc b) (omega arith) top i, bottom i)
