-- The groups of a cover that answers each question by yes or no: each order's group is a column that has it.
use Rattle.std.specs.Prelude.{◌≡◌, ℕ, ◌<◌, true, List, length, slice_index, Contains, Option}
use Rattle.mill_model.specs.Mill.{Mill}
use Rattle.mill_model.specs.Columns.{has}
use Rattle.mill_model.specs.Covers.{Part}
use Rattle.pricing_laws.specs.Groups.{head_of}
use Rattle.slab_node.specs.Grouped.{slab_of, slab_at}

-- a column of the cover that counts
pub record Counts (parts : List Part) (part : Part) : Type 0 where
  pub there : Contains parts part
  pub above : 0 < part.1

-- a column that has an order, by whose first order and surplus slab the order's group is known
pub record IsTaken (parts : List Part) (order head : ℕ) (slab : Option ℕ) : Type 0 where
  pub part : Part
  pub counts : Counts parts part
  pub mine : has part.0.orders order ≡ true
  pub head_is : head ≡ slice_index part.0.orders 0
  pub slab_is : slab ≡ slab_of part.0.kind

-- the group of each order
pub record AreTaken (m : Mill) (parts : List Part) (heads : List ℕ) (slabs : List (Option ℕ)) : Type 0 where
  pub heads_size : length heads ≡ length m.orders
  pub slabs_size : length slabs ≡ length m.orders
  pub each : (order : ℕ) → order < length m.orders → IsTaken parts order (head_of heads order) (slab_at slabs order)
