-- The different colours of a list.
use Rattle.std.specs.Prelude.{◌≡◌, ℕ, List, length}
use Rattle.mill_model.specs.Columns.{has, different}

-- these are the different colours among those
pub record AreColours (colours all : List ℕ) : Type 0 where
  pub same : (c : ℕ) → has colours c ≡ has all c
  pub count : length colours ≡ different all
