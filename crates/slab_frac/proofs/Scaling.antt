-- Fractions brought to one denominator.
use Rattle.std.proofs.Common.{◌≡◌, ℕ, zero, suc, ◌+◌, ◌*◌, ◌/◌, ◌^◌, ◌<◌, ◌≤◌, arith, ap, sym, subst, ◌∙◌, List, [], ◌∷◌, ◌++◌, length, take, set, get_or}
use Rattle.std.specs.Prelude.{ℤ, pos, ◌*ℤ◌, unsigned_abs}
use Prim.Native.Nat.{◌∣◌}
use native.Mathlib.Nat.{one-dvd, pos_of_dvd_of_pos, dvd_trans, le_of_dvd, div-mul_cancel, dvd-mul_right, dvd-mul_left, mul-pos, dvd_antisymm, div-le_self}
use Rattle.std.proofs.lemmas.List.{take_more, take_more_set, take-take, length-take, get_or-take}
use Rattle.std.proofs.lemmas.List.Elements.{All-nil, All-more, All-weaker, All-take, All-push}
use Rattle.slab_frac.specs.Fraction.{Fraction}
use Rattle.slab_frac.specs.Scaled.{IsLeastMultiple, IsCommonDenominator, IsLeastDenominator, IsMultipleBy, IsScaled, AreInRange, HasNoCommonForm}
use Rattle.slab_frac.proofs.Ring.{mul_assoc_int, mul_cancel_pos}

pub least_none : IsLeastDenominator [] 1
least_none = record { positive = omega arith; common = All-nil (λ (x : Fraction). x.den ∣ 1); least = λ m h. one-dvd m }

lcm_pos : (a b m : ℕ) → 0 < a → 0 < b → IsLeastMultiple a b m → 0 < m
lcm_pos a b m p q h = pos_of_dvd_of_pos (h.2 (a * b) (dvd-mul_right a b) (dvd-mul_left b a)) (mul-pos p q)

-- one fraction more
pub least_more : (xs : List Fraction) (i d m : ℕ) (x : Fraction) → i < length xs → x ≡ get_or xs i x → 0 < x.den → IsLeastDenominator (take i xs) d → IsLeastMultiple d x.den m → IsLeastDenominator (take (i + 1) xs) m
least_more xs i d m x inside is above h l =
    record {
      positive = lcm_pos d x.den m h.positive above l;
      common = All-more (λ (y : Fraction). y.den ∣ m) xs i x inside
          (All-weaker (λ (y : Fraction). y.den ∣ d) (λ (y : Fraction). y.den ∣ m) (λ y u. dvd_trans y.den u l.0) (take i xs) h.common)
          (subst (λ (y : Fraction). y.den ∣ m) is l.1);
      least = λ k u. l.2 k
          (h.least k (subst (λ (ys : List Fraction). IsCommonDenominator ys k) (take-take i (i + 1) xs (omega arith)) (All-take (λ (y : Fraction). y.den ∣ k) i (take (i + 1) xs) u)))
          (subst (λ (y : Fraction). y.den ∣ k) (get_or-take (i + 1) xs i x (omega arith) ∙ sym is)
          (u i x (rw length-take (omega arith))));
    }

-- the denominator of a part is no greater
pub least_of_part : (xs : List Fraction) (i d m : ℕ) → IsLeastDenominator (take i xs) d → IsLeastDenominator xs m → d ≤ m
least_of_part xs i d m h l = le_of_dvd l.positive (h.least m (All-take (λ (y : Fraction). y.den ∣ m) i xs l.common))

pub multiple_by : (d : ℕ) (x : Fraction) (k : ℤ) → 0 < x.den → x.den ∣ d → k ≡ x.num *ℤ pos (d / x.den) → IsMultipleBy d x k
multiple_by d x k above divides e =
    (above, ap (λ (z : ℤ). z *ℤ pos x.den) e ∙ mul_assoc_int x.num (pos (d / x.den)) (pos x.den) ∙ ap (λ (n : ℕ). x.num *ℤ pos n) (div-mul_cancel x.den divides))

pub quotient_le : (d n m : ℕ) → d ≤ m → d / n ≤ m
quotient_le d n m h = omega (arith, div-le_self d n)

-- one place more
pub scaled_more : (d : ℕ) (xs : List Fraction) (ks : List ℤ) (x : Fraction) (k : ℤ) → IsScaled d xs ks → IsMultipleBy d x k → IsScaled d (xs ++ x ∷ []) (ks ++ k ∷ [])
scaled_more d [] [] x k h m = (m, tt)
scaled_more d [] (j ∷ ks) x k h m = absurd h
scaled_more d (y ∷ xs) [] x k h m = absurd h
scaled_more d (y ∷ xs) (j ∷ ks) x k h m = (h.0, scaled_more d xs ks x k h.1 m)

-- the number at a place of a scaled list is the one multiple
pub scaled_at : (d : ℕ) (xs : List Fraction) (ks : List ℤ) (i : ℕ) (x : Fraction) (k e : ℤ) → IsScaled d xs ks → i < length xs → x ≡ get_or xs i x → IsMultipleBy d x k → (get_or ks i e ≡ k) × (i < length ks)
scaled_at d [] ks i x k e h inside is m = absurd (omega arith)
scaled_at d (y ∷ xs) [] i x k e h inside is m = absurd h
scaled_at d (y ∷ xs) (j ∷ ks) zero x k e h inside is m = (
  mul_cancel_pos j k x.den m.0
      (subst (λ (z : Fraction). j *ℤ pos z.den ≡ z.num *ℤ pos d) (sym is) h.0.1 ∙ sym m.1),
  omega arith,
)
scaled_at d (y ∷ xs) (j ∷ ks) (suc i) x k e h inside is m =
    let rest : (get_or ks i e ≡ k) × (i < length ks) = scaled_at d xs ks i x k e h.1 (omega arith) is m in
    (rest.0, omega arith)

pub same_least : (xs : List Fraction) (d e : ℕ) → IsLeastDenominator xs d → IsLeastDenominator xs e → d ≡ e
same_least xs d e h k = dvd_antisymm (h.least e k.common) (k.least d h.common)

-- a product out of range leaves no common form
pub none_from_wide : (xs : List Fraction) (i d : ℕ) (x : Fraction) (k : ℤ) → i < length xs → x ≡ get_or xs i x → IsLeastDenominator xs d → IsMultipleBy d x k → 2 ^ 62 < unsigned_abs k → HasNoCommonForm xs
none_from_wide xs i d x k inside is h m wide e ks least scaled bound range =
    let scaled_by_d : IsScaled d xs ks = subst (λ (n : ℕ). IsScaled n xs ks) (same_least xs e d least h) scaled in
    let place : (get_or ks i k ≡ k) × (i < length ks) = scaled_at d xs ks i x k k scaled_by_d inside is m in
    let small : unsigned_abs k ≤ 2 ^ 62 = subst (λ (z : ℤ). unsigned_abs z ≤ 2 ^ 62) place.0 (range i k place.1) in
    omega arith

-- the invariant of the loop, one place more
pub scaled_step : (d i : ℕ) (xs : List Fraction) (ks : List ℤ) (x : Fraction) (k : ℤ) → i < length xs → i < length ks → x ≡ get_or xs i x → IsScaled d (take i xs) (take i ks) → IsMultipleBy d x k → IsScaled d (take (i + 1) xs) (take (i + 1) (set ks i k))
scaled_step d i xs ks x k inside out is h m =
    rw (take_more_set ks i k out, take_more xs i x inside)
    (subst (λ (y : Fraction). IsScaled d (take i xs ++ y ∷ []) (take i ks ++ k ∷ [])) is (scaled_more d (take i xs) (take i ks) x k h m))

pub range_step : (i : ℕ) (ks : List ℤ) (k : ℤ) → i < length ks → AreInRange (take i ks) → unsigned_abs k ≤ 2 ^ 62 → AreInRange (take (i + 1) (set ks i k))
range_step i ks k out h small =
    rw (take_more_set ks i k out) (All-push (λ (z : ℤ). unsigned_abs z ≤ 2 ^ 62) (take i ks) k h small)
