-- The columns that a walk over the groups of a queue has before it.
use Rattle.std.specs.Prelude.{◌≡◌, ℕ, ◌+◌, ◌≤◌, ℤ, List, ◌++◌, length}
use Rattle.std.specs.List.{sum_by}
use Rattle.mill_model.specs.SignedSums.{total_by}
use Rattle.mill_model.specs.Columns.{Column}
use Rattle.pricing_laws.specs.Groups.{members}
use Rattle.pricing_laws.specs.Groupings.{Groups, weight_at, gain_at}
use Rattle.pricing_laws.specs.Parts.{IsPart, left_of}

-- heads taken from the queue, where so many are left, with the weight and the gain of their groups
pub record AreChosen (g : Groups) (queue : List ℕ) (left : ℕ) (chosen : List ℕ) (weight : ℕ) (gain : ℤ) : Type 0 where
  pub part : (more : List ℕ) → IsPart more (left_of queue left) → IsPart (chosen ++ more) (left_of queue (length queue))
  pub count : length chosen + left ≤ length queue
  pub weight_is : weight ≡ sum_by (weight_at g) chosen
  pub gain_is : gain ≡ total_by (gain_at g) chosen

-- a column of the groups chosen and of some of those left
pub record IsChoice (heads chosen left : List ℕ) (c : Column) : Type 0 where
  pub more : List ℕ
  pub part : IsPart more left
  pub orders : c.orders ≡ members heads (chosen ++ more)
