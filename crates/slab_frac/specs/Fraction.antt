-- Fractions, lowest terms, and the range that is kept.
use Rattle.std.specs.Prelude.{◌≡◌, ℕ, ◌*◌, ◌^◌, ◌<◌, ◌≤◌, ℤ, pos, negsuc, neg_ℤ, ◌*ℤ◌, unsigned_abs, Option, IfSome, IfNone}
use Rattle.std.specs.Int.{IsGcd}

-- a numerator over a denominator
pub record Fraction : Type 0 where
  pub num : ℤ
  pub den : ℕ

-- the two are one rational number
abbrev pub IsSameNumber : Fraction → Fraction → Type 0
IsSameNumber f g = f.num *ℤ pos g.den ≡ g.num *ℤ pos f.den

-- both parts lie in the range that a fraction of this library keeps
pub record IsInRange (f : Fraction) : Type 0 where
  pub num : unsigned_abs f.num ≤ 2 ^ 62
  pub den : f.den ≤ 2 ^ 62

-- the denominator isn't 0, and no number above 1 divides both parts
pub record IsLowest (f : Fraction) : Type 0 where
  pub positive : 0 < f.den
  pub coprime : IsGcd (unsigned_abs f.num) f.den 1

-- what every fraction of this library keeps: lowest terms, parts in range
pub record IsKept (f : Fraction) : Type 0 where
  pub lowest : IsLowest f
  pub in_range : IsInRange f

-- r is the number f in lowest terms
pub record IsReduced (f r : Fraction) : Type 0 where
  pub same : IsSameNumber f r
  pub lowest : IsLowest r

abbrev pub whole_of : ℤ → Fraction
whole_of n = record { num = n; den = 1 }

-- n with the sign of another number
abbrev pub signed_like : ℤ → ℤ → ℤ
signed_like (pos _) n = n
signed_like (negsuc _) n = neg_ℤ n

-- no fraction in range is the number in lowest terms
abbrev pub IsOutOfRange : Fraction → Type 0
IsOutOfRange exact = (r : Fraction) → IsReduced exact r → IsInRange r → ⊥

-- the result is the exact number in lowest terms, and none exactly where its parts leave the range
pub record IsExactly (exact : Fraction) (result : Option Fraction) : Type 0 where
  pub value : IfSome result (λ r. IsReduced exact r × IsInRange r)
  pub none : IfNone result (IsOutOfRange exact)
