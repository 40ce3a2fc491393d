-- What a table is made from.
use Rattle.std.specs.Prelude.{ℕ, ◌+◌, ◌^◌, ◌<◌, ◌≤◌, ℤ, pos, unsigned_abs, List, length, slice_index_or}
use Rattle.mill_model.specs.Mill.{most_orders, most_weight}
use Rattle.pricing_laws.specs.Bounds.{AreSteps, AreWeighed}
use Rattle.pricing_laws.specs.Groupings.{Groups}

-- some groups, the ends, and columns for them
pub record IsGrid (g : Groups) (ends : List ℤ) (heads : List ℕ) (step width : ℕ) : Type 0 where
  pub few : length heads ≤ most_orders
  pub weighed : AreWeighed g heads
  pub narrow : length ends ≤ most_weight + 1
  pub small : (load : ℕ) → load < length ends → unsigned_abs (slice_index_or ends load (pos 0)) ≤ 2 ^ 100
  pub steps : AreSteps (length ends) step width
