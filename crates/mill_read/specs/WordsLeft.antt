-- The words that are left of a text, and the number of the first of them, from 1.
use Rattle.std.specs.Prelude.{ℕ, List}

pub record WordsLeft : Type 0 where
  pub number : ℕ
  pub words : List (List ℕ)
