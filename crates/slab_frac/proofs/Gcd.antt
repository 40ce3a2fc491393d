-- The greatest common divisor, and fractions in lowest terms.
use Rattle.std.proofs.Common.{◌≡◌, ℕ, zero, suc, ◌*◌, ◌/◌, ◌%◌, ◌<◌, ◌≤◌, arith, refl, ap, sym, subst, ◌∙◌}
use Rattle.std.specs.Int.{IsGcd}
use Rattle.std.proofs.lemmas.Nat.Gcd.{IsGcd-from_zero, IsGcd-from_mod, IsGcd-swap, dvd_trans, le_of_dvd}
use Prim.Native.Nat.{◌∣◌}
use native.Mathlib.Nat.{dvd_of_mul-dvd-mul_left, dvd-mul_left, dvd-mul_right, mul-dvd-mul_left, mod-lt, one-dvd, dvd-zero, mul-div_cancel'}

-- any two numbers have a greatest common divisor
gcd_by : (fuel a b : ℕ) → b < fuel → (g : ℕ) × IsGcd a b g
gcd_by zero a b h = absurd (omega arith)
gcd_by (suc f) a zero h = (a, IsGcd-from_zero a zero refl)
gcd_by (suc f) a (suc b) h =
    let below : a % suc b < suc b = mod-lt a (omega arith) in
    let inner : (g : ℕ) × IsGcd (suc b) (a % suc b) g = gcd_by f (suc b) (a % suc b) (omega arith) in
    (inner.0, IsGcd-from_mod a (suc b) inner.0 inner.1)

pub gcd-exists : (a b : ℕ) → (g : ℕ) × IsGcd a b g
gcd-exists a b = gcd_by (suc b) a b (omega arith)

-- the greatest common divisor of two multiples of k
pub IsGcd-mul : (k a b g : ℕ) → 0 < k → IsGcd a b g → IsGcd (k * a) (k * b) (k * g)
IsGcd-mul k a b g p h =
    let other : (x : ℕ) × IsGcd (k * a) (k * b) x = gcd-exists (k * a) (k * b) in
    let shared : k ∣ other.0 = other.1.2 k (dvd-mul_right k a) (dvd-mul_right k b) in
    let rest : ℕ = other.0 / k in
    let split : k * rest ≡ other.0 = mul-div_cancel' k shared in
    let below : rest ∣ g =
    h.2 rest
    (dvd_of_mul-dvd-mul_left rest p (subst (λ (x : ℕ). x ∣ k * a) (sym split) other.1.0))
    (dvd_of_mul-dvd-mul_left rest p (subst (λ (x : ℕ). x ∣ k * b) (sym split) other.1.1))
    in
    let all : other.0 ∣ k * g = subst (λ (x : ℕ). x ∣ k * g) split (mul-dvd-mul_left rest k below) in (
      mul-dvd-mul_left g k h.0,
      mul-dvd-mul_left g k h.1,
      λ d u v. dvd_trans d (other.1.2 d u v) all,
    )

-- what divides a product and shares nothing with one factor divides the other
pub dvd_of_coprime : (a b d : ℕ) → IsGcd a b 1 → b ∣ d * a → 0 < d → b ∣ d
dvd_of_coprime a b d h u p =
    let e : d * 1 ≡ d = omega arith in
    subst (λ (x : ℕ). b ∣ x) e ((IsGcd-mul d a b 1 p h).2 b u (dvd-mul_left b d))

-- no equal fraction has smaller parts than the one in lowest terms
pub least_parts : (a b c d : ℕ) → IsGcd a b 1 → 0 < d → a * d ≡ c * b → (a ≤ c) × (b ≤ d)
least_parts a b zero zero h p e = absurd (omega arith)
least_parts a b zero (suc d) h p e = (
  omega arith,
  le_of_dvd p (dvd_of_coprime a b (suc d) h (subst (λ (x : ℕ). b ∣ x) (sym e ∙ (omega arith)) (dvd-mul_left b zero)) p),
)
least_parts a b (suc c) d h p e = (
  le_of_dvd (omega arith) (dvd_of_coprime b a (suc c) (IsGcd-swap a b 1 h) (subst (λ (x : ℕ). a ∣ x) e (dvd-mul_right a d)) (omega arith)),
  le_of_dvd p (dvd_of_coprime a b d h (subst (λ (x : ℕ). b ∣ x) (sym e ∙ (omega arith)) (dvd-mul_left b (suc c))) p),
)

-- the parts that are left after division by the greatest common divisor
pub coprime_after : (a b g : ℕ) → 0 < g → IsGcd (g * a) (g * b) g → IsGcd a b 1
coprime_after a b g p h = (
  one-dvd a,
  one-dvd b,
  λ d u v.
      let e : g * 1 ≡ g = omega arith in
      dvd_of_mul-dvd-mul_left d p
      (subst (λ (x : ℕ). g * d ∣ x) (sym e) (h.2 (g * d) (mul-dvd-mul_left d g u) (mul-dvd-mul_left d g v))),
)

-- the least common multiple of a and b is a/g times b
pub IsLcm-parts : (a b g : ℕ) → 0 < g → IsGcd a b g → (a ∣ a / g * b) × (b ∣ a / g * b) × ((m : ℕ) → a ∣ m → b ∣ m → a / g * b ∣ m)
IsLcm-parts a b g p h =
    let top : g * (a / g) ≡ a = mul-div_cancel' g h.0 in
    let bottom : g * (b / g) ≡ b = mul-div_cancel' g h.1 in
    parts a b g (a / g) (b / g) p h (sym top) (sym bottom)
  where
    parts : (a b g x y : ℕ) → 0 < g → IsGcd a b g → a ≡ g * x → b ≡ g * y → (a ∣ x * b) × (b ∣ x * b) × ((m : ℕ) → a ∣ m → b ∣ m → x * b ∣ m)
    parts a b g x y p h e f = (
      subst (λ (z : ℕ). a ∣ z) (ap (λ z. z * y) e ∙ shuffle g x y ∙ ap (λ z. x * z) (sym f)) (dvd-mul_right a y),
      dvd-mul_left b x,
      λ m u v.
          let s : ℕ = m / a in
          let whole : a * s ≡ m = mul-div_cancel' a u in
          let inner : g * y ∣ g * (s * x) =
          subst (λ (z : ℕ). z ∣ g * (s * x)) f (subst (λ (z : ℕ). b ∣ z) (sym whole ∙ ap (λ z. z * s) e ∙ shuffle2 g x s) v) in
          let coprime : IsGcd x y 1 = coprime_after x y g p (subst (λ (z : ℕ). IsGcd z (g * y) g) e (subst (λ (z : ℕ). IsGcd a z g) f h)) in
          let divides : y ∣ s * x = dvd_of_mul-dvd-mul_left y p inner in
          let rest : y ∣ s = divides_rest x y s coprime divides in
          subst (λ (z : ℕ). z ∣ m) (ap (λ z. z * y) e ∙ shuffle g x y ∙ ap (λ z. x * z) (sym f)) (subst (λ (z : ℕ). a * y ∣ z) whole (mul-dvd-mul_left y a rest)),
    )
      where
        shuffle : (g x y : ℕ) → g * x * y ≡ x * (g * y)
        shuffle g x y = omega arith

        shuffle2 : (g x s : ℕ) → g * x * s ≡ g * (s * x)
        shuffle2 g x s = omega arith

        divides_rest : (x y s : ℕ) → IsGcd x y 1 → y ∣ s * x → y ∣ s
        divides_rest x y zero co d = dvd-zero y
        divides_rest x y (suc s) co d = dvd_of_coprime x y (suc s) co d (omega arith)
