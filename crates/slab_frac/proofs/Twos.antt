-- Common divisors of odd numbers, and factors 2.
use Rattle.std.proofs.Common.{◌≡◌, ℕ, zero, suc, ◌+◌, ◌-◌, ◌*◌, ◌/◌, ◌%◌, ◌^◌, ◌<◌, ◌≤◌, ◌⊎◌, inl, inr, arith, ap, sym, subst, ◌∙◌, min}
use Prim.Native.Nat.{◌∣◌}
use native.Mathlib.Nat.{one-dvd, dvd-mul_left, dvd-mul_right, mul-dvd-mul_left, mul-div_cancel', pow-zero, pow-succ', mod-eq_of_lt}
use Rattle.std.specs.Int.{IsGcd, bit_at}
use Rattle.std.proofs.lemmas.Bool.{cases_lt}
use Rattle.std.proofs.lemmas.Nat.{pow-add, pow_pos}
use Rattle.std.proofs.lemmas.Nat.Bits.{bit_at_lowest, bit_at-suc}
use Rattle.std.proofs.lemmas.Nat.Gcd.{IsGcd-swap, IsGcd-from_sub, dvd_refl, dvd_trans, le_of_dvd}
use Rattle.slab_frac.specs.Odd.{IsOdd, IsOddPart}
use Rattle.slab_frac.proofs.Gcd.{IsGcd-mul}

-- 2 divides a number as often as its lowest digits are 0
pub pow_dvd : (k n : ℕ) → ((i : ℕ) → i < k → bit_at n i ≡ 0) → 2 ^ k ∣ n
pow_dvd zero n h = subst (λ (m : ℕ). m ∣ n) (sym (pow-zero 2)) (one-dvd n)
pow_dvd (suc k) n h =
    let even : n % 2 ≡ 0 = sym (bit_at_lowest n) ∙ h 0 (omega arith) in
    let half : 2 * (n / 2) ≡ n = omega (arith, even) in
    let rest : 2 ^ k ∣ n / 2 = pow_dvd k (n / 2) (λ i below. sym (bit_at-suc n i) ∙ h (suc i) (omega (arith, below))) in
    subst (λ (m : ℕ). m ∣ n) (sym (pow-succ' 2 k))
    (subst (λ (m : ℕ). 2 * 2 ^ k ∣ m) half (mul-dvd-mul_left (2 ^ k) 2 rest))

pub odd_part : (n k : ℕ) → ((i : ℕ) → i < k → bit_at n i ≡ 0) → bit_at n k ≡ 1 → IsOddPart n k (n / 2 ^ k)
odd_part n k low top = record { product = mul-div_cancel' (2 ^ k) (pow_dvd k n low); odd = top }

-- what divides an odd number is odd
odd_product : (d q : ℕ) → IsOdd (d * q) → IsOdd d
odd_product d q h =
    elim (parity d) [
      | inl even ↦ absurd (no_even (d / 2) q (subst (λ (m : ℕ). IsOdd (m * q)) even h))
      | inr odd ↦ odd
    ]
  where
    parity : (d : ℕ) → (d ≡ 2 * (d / 2)) ⊎ IsOdd d
    parity d = elim (cases_lt (d % 2) 1) [ inl below ↦ inl (omega (arith, below)) | inr above ↦ inr (omega (arith, above)) ]

    no_even : (e q : ℕ) → IsOdd (2 * e * q) → ⊥
    no_even e q h = omega (arith, h)

odd_divides : (d x : ℕ) → IsOdd x → d ∣ x → IsOdd d
odd_divides d x odd h = odd_product d (x / d) (subst IsOdd (sym (mul-div_cancel' d h)) odd)

-- an odd divisor of a number divides its half
half_product : (d q w : ℕ) → IsOdd d → d * q ≡ 2 * w → d * (q / 2) ≡ w
half_product d q w odd e =
    elim (parity q) [
      | inl even ↦ whole d (q / 2) w (subst (λ (m : ℕ). d * m ≡ 2 * w) even e)
      | inr other ↦ absurd (no_odd (d / 2) (q / 2) w (subst (λ (m : ℕ). m * (2 * (q / 2) + 1) ≡ 2 * w) (split d odd) (subst (λ (m : ℕ). d * m ≡ 2 * w) (split q other) e)))
    ]
  where
    parity : (n : ℕ) → (n ≡ 2 * (n / 2)) ⊎ IsOdd n
    parity n = elim (cases_lt (n % 2) 1) [ inl below ↦ inl (omega (arith, below)) | inr above ↦ inr (omega (arith, above)) ]

    split : (n : ℕ) → IsOdd n → n ≡ 2 * (n / 2) + 1
    split n h = omega (arith, h)

    whole : (d h w : ℕ) → d * (2 * h) ≡ 2 * w → d * h ≡ w
    whole d h w e = omega (arith, e)

    no_odd : (a h w : ℕ) → (2 * a + 1) * (2 * h + 1) ≡ 2 * w → ⊥
    no_odd a h w e = omega (arith, e)

half_divides : (d w : ℕ) → IsOdd d → d ∣ 2 * w → d ∣ w
half_divides d w odd h =
    subst (λ (m : ℕ). d ∣ m) (half_product d (2 * w / d) w odd (mul-div_cancel' d h)) (dvd-mul_right d (2 * w / d / 2))

odd_part_divides : (k z d : ℕ) → IsOdd d → d ∣ 2 ^ k * z → d ∣ z
odd_part_divides zero z d odd h = subst (λ (m : ℕ). d ∣ m) (ap (λ n. n * z) (pow-zero 2) ∙ (omega arith)) h
odd_part_divides (suc k) z d odd h =
    odd_part_divides k z d odd
    (half_divides d (2 ^ k * z) odd (subst (λ (m : ℕ). d ∣ m) (ap (λ n. n * z) (pow-succ' 2 k) ∙ (omega arith)) h))

-- factors 2 beside an odd number change no common divisor
pub twos_on : (k z x g : ℕ) → IsOdd x → IsGcd z x g → IsGcd (2 ^ k * z) x g
twos_on k z x g odd h = (
  dvd_trans g h.0 (dvd-mul_left z (2 ^ k)),
  h.1,
  λ d u v. h.2 d (odd_part_divides k z d (odd_divides d x odd v) u) v,
)

-- one step of the search: the difference without its factors 2 stands for the greater number
pub step_down : (x y k z g : ℕ) → IsOdd x → x ≤ y → IsOddPart (y - x) k z → IsGcd x z g → IsGcd x y g
step_down x y k z g odd le part h =
    IsGcd-swap y x g
    (IsGcd-from_sub y x g le
    (subst (λ (m : ℕ). IsGcd m x g) part.product (twos_on k z x g odd (IsGcd-swap x z g h))))

-- whichever of the two is the smaller
pub step : (x y low d k z g : ℕ) → IsOdd x → IsOdd y → low ≡ min x y → d ≡ (x - y) + (y - x) → IsOddPart d k z → IsGcd low z g → IsGcd x y g
step x y low d k z g first second least apart part h =
    elim (cases_lt x y) [
      | inl less ↦ step_down x y k z g first (omega (arith, less))
          (subst (λ (m : ℕ). IsOddPart m k z) (apart ∙ (omega (arith, less))) part)
          (subst (λ (m : ℕ). IsGcd m z g) (least ∙ (omega (arith, less))) h)
      | inr more ↦ IsGcd-swap y x g
          (step_down y x k z g second more
          (subst (λ (m : ℕ). IsOddPart m k z) (apart ∙ (omega (arith, more))) part)
          (subst (λ (m : ℕ). IsGcd m z g) (least ∙ (omega (arith, more))) h))
    ]

pub least_is_odd : (x y low : ℕ) → IsOdd x → IsOdd y → low ≡ min x y → IsOdd low
least_is_odd x y low first second least =
    elim (cases_lt x y) [
      | inl less ↦ subst IsOdd (sym (least ∙ (omega (arith, less)))) first
      | inr more ↦ subst IsOdd (sym (least ∙ (omega (arith, more)))) second
    ]

pub gcd_of_same : (x y : ℕ) → x ≡ y → IsGcd x y x
gcd_of_same x y e = (dvd_refl x, subst (λ (m : ℕ). x ∣ m) e (dvd_refl x), λ d u v. u)

pub gcd_of_one : (a b : ℕ) → (a ≡ 1) ⊎ (b ≡ 1) → IsGcd a b 1
gcd_of_one a b one =
    (one-dvd a, one-dvd b, λ d u v. elim one [ inl e ↦ subst (λ (m : ℕ). d ∣ m) e u | inr e ↦ subst (λ (m : ℕ). d ∣ m) e v ])

-- two numbers whose odd parts share g
pub gcd_of_parts : (a b i j x y g : ℕ) → IsOddPart a i x → IsOddPart b j y → IsGcd x y g → IsGcd a b (2 ^ min i j * g)
gcd_of_parts a b i j x y g first second h =
    elim (cases_le i j) [
      | inl le ↦ subst (λ (m : ℕ). IsGcd a b (2 ^ m * g)) (omega (arith, le)) (least a b i j x y g le first second h)
      | inr ge ↦ subst (λ (m : ℕ). IsGcd a b (2 ^ m * g)) (omega (arith, ge))
          (IsGcd-swap b a (2 ^ j * g) (least b a j i y x g ge second first (IsGcd-swap x y g h)))
    ]
  where
    cases_le : (m n : ℕ) → (m ≤ n) ⊎ (n ≤ m)
    cases_le m n = elim (cases_lt m n) [ inl below ↦ inl (omega (arith, below)) | inr above ↦ inr above ]

    regroup : (p q r : ℕ) → p * (q * r) ≡ p * q * r
    regroup p q r = omega arith

    least : (a b i j x y g : ℕ) → i ≤ j → IsOddPart a i x → IsOddPart b j y → IsGcd x y g → IsGcd a b (2 ^ i * g)
    least a b i j x y g le first second h =
        let rest : i + (j - i) ≡ j = omega (arith, le) in
        let power : 2 ^ i * (2 ^ (j - i) * y) ≡ b =
        regroup (2 ^ i) (2 ^ (j - i)) y ∙ ap (λ (n : ℕ). n * y) (sym (pow-add 2 i (j - i)) ∙ ap (λ (n : ℕ). 2 ^ n) rest) ∙ second.product in
        subst (λ (m : ℕ). IsGcd m b (2 ^ i * g)) first.product
        (subst (λ (m : ℕ). IsGcd (2 ^ i * x) m (2 ^ i * g)) power
        (IsGcd-mul (2 ^ i) x (2 ^ (j - i) * y) g (pow_pos i)
        (IsGcd-swap (2 ^ (j - i) * y) x g (twos_on (j - i) y x g first.odd (IsGcd-swap x y g h)))))

-- the product fits where the first number does
pub parts_fit : (a b i j x y g n : ℕ) → 0 < a → a < n → IsOddPart a i x → IsOddPart b j y → IsGcd x y g → IsGcd a b (g * 2 ^ min i j % n)
parts_fit a b i j x y g n above fits first second h =
    let whole : IsGcd a b (2 ^ min i j * g) = gcd_of_parts a b i j x y g first second h in
    let small : 2 ^ min i j * g ≤ a = le_of_dvd above whole.0 in
    let same : 2 ^ min i j * g ≡ g * 2 ^ min i j = omega arith in
    let below : g * 2 ^ min i j < n = omega (arith, small, fits, same) in
    subst (λ (m : ℕ). IsGcd a b m) (same ∙ sym (mod-eq_of_lt below)) whole
