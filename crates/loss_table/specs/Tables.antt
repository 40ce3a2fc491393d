-- A table of the least sizes.
use Rattle.std.specs.Prelude.{ℕ, ◌<◌, List, All, length, slice_index}
use Rattle.mill_model.specs.LeastSizes.{IsLeastSize}

-- for each load up to the greatest size the least size that holds it
pub record IsTable (sizes table : List ℕ) : Type 0 where
  pub answers : (load : ℕ) → load < length table → IsLeastSize sizes load (slice_index table load)
  pub reaches : All (λ size. size < length table) sizes
