-- Odd numbers, and what is left of a number without its factors 2.
use Rattle.std.specs.Prelude.{◌≡◌, ℕ, ◌*◌, ◌%◌, ◌^◌}

abbrev pub IsOdd : ℕ → Type 0
IsOdd n = n % 2 ≡ 1

-- n is the odd number m, times 2 as often as k says
pub record IsOddPart (n k m : ℕ) : Type 0 where
  pub product : 2 ^ k * m ≡ n
  pub odd : IsOdd m
