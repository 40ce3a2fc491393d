-- Whole numbers over a denominator.
use Rattle.std.specs.Prelude.{◌≡◌, ◌<◌, ℤ, pos, unsigned_abs, List}
use Rattle.slab_frac.specs.Fraction.{Fraction}
use Rattle.slab_frac.specs.Scaled.{IsScaled}

-- z is above 0
abbrev pub IsDenominator : ℤ → Type 0
IsDenominator z = (0 < unsigned_abs z) × (pos (unsigned_abs z) ≡ z)

-- the whole numbers ks over z are the fractions xs
pub record StandsOver (z : ℤ) (xs : List Fraction) (ks : List ℤ) : Type 0 where
  pub denominator : IsDenominator z
  pub scaled : IsScaled (unsigned_abs z) xs ks
