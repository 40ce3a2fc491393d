-- Two numbers divided by what they share.
use Rattle.std.specs.Prelude.{◌≡◌, ℕ, ◌*◌}
use Rattle.std.specs.Int.{IsGcd}

-- a and b are n and m, divided by the greatest common divisor of n and m
pub record AreLowest (n m a b : ℕ) : Type 0 where
  pub shared : ℕ
  pub greatest : IsGcd n m shared
  pub top : shared * a ≡ n
  pub bottom : shared * b ≡ m
