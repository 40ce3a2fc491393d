-- Fractions brought to one denominator.
use Rattle.std.specs.Prelude.{◌≡◌, ℕ, ◌^◌, ◌<◌, ◌≤◌, ℤ, pos, ◌*ℤ◌, unsigned_abs, List, All}
use Prim.Native.Nat.{◌∣◌}
use Rattle.std.specs.List.{AllZip}
use Rattle.slab_frac.specs.Fraction.{Fraction}

-- a and b divide m, and m divides every number that both divide
abbrev pub IsLeastMultiple : ℕ → ℕ → ℕ → Type 0
IsLeastMultiple a b m = (a ∣ m) × (b ∣ m) × ((k : ℕ) → a ∣ k → b ∣ k → m ∣ k)

-- m is a multiple of every denominator
abbrev pub IsCommonDenominator : List Fraction → ℕ → Type 0
IsCommonDenominator xs m = All (λ x. x.den ∣ m) xs

-- d is above 0, is a multiple of every denominator, and divides each such multiple
pub record IsLeastDenominator (xs : List Fraction) (d : ℕ) : Type 0 where
  pub positive : 0 < d
  pub common : IsCommonDenominator xs d
  pub least : (m : ℕ) → IsCommonDenominator xs m → d ∣ m

-- k is d times the fraction
abbrev pub IsMultipleBy : ℕ → Fraction → ℤ → Type 0
IsMultipleBy d x k = (0 < x.den) × (k *ℤ pos x.den ≡ x.num *ℤ pos d)

-- the whole numbers are d times the fractions, in order
abbrev pub IsScaled : ℕ → List Fraction → List ℤ → Type 0
IsScaled d xs ks = AllZip (IsMultipleBy d) xs ks

abbrev pub AreInRange : List ℤ → Type 0
AreInRange ks = All (λ k. unsigned_abs k ≤ 2 ^ 62) ks

-- the fractions over their least common denominator z
pub record IsCommonForm (xs : List Fraction) (z : ℤ) (ks : List ℤ) : Type 0 where
  pub positive : pos (unsigned_abs z) ≡ z
  pub least : IsLeastDenominator xs (unsigned_abs z)
  pub scaled : IsScaled (unsigned_abs z) xs ks
  pub in_range : (unsigned_abs z ≤ 2 ^ 62) × AreInRange ks

-- no whole numbers in range stand over the least common denominator
abbrev pub HasNoCommonForm : List Fraction → Type 0
HasNoCommonForm xs = (d : ℕ) (ks : List ℤ) → IsLeastDenominator xs d → IsScaled d xs ks → d ≤ 2 ^ 62 → AreInRange ks → ⊥
