-- Which columns of a pool were basic last.
use Rattle.std.specs.Prelude.{ℕ, ◌<◌, List, All}
use Rattle.slab_columns.specs.declared.column.ColId.{ColId}

-- their numbers, the latest first, with room for the columns below a number
pub record Recency : Type 0 where
  pub room : ℕ
  pub ids : List ColId

abbrev pub AreBelow : ℕ → List ColId → Type 0
AreBelow n ids = All (λ id. id.0 < n) ids
