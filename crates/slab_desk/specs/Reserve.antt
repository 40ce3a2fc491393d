-- Bytes for which memory was taken.
use Rattle.std.specs.Prelude.{ℕ, List}

pub record Reserve : Type 0 where
  pub bytes : List ℕ
  -- so many bytes have memory
  pub room : ℕ
