-- Bounds on what some groups gain beside a load, beyond what a slab costs that holds them all.
use Rattle.std.specs.Prelude.{ℕ, ◌+◌, ◌-◌, ◌*◌, ◌/◌, ◌^◌, ◌<◌, ◌≤◌, ℤ, pos, ◌+ℤ◌, ◌-ℤ◌, ◌≤ℤ◌, unsigned_abs, List, length, slice_index_or}
use Rattle.std.specs.List.{sum_by}
use Rattle.mill_model.specs.declared.kind.Kind.{Kind}
use Rattle.mill_model.specs.Mill.{Mill, most_weight}
use Rattle.mill_model.specs.SignedSums.{total_by}
use Rattle.mill_model.specs.Columns.{IsInStock, size_of}
use Rattle.mill_model.specs.Prices.{Prices}
use Rattle.pricing_laws.specs.Gains.{cost_of}
use Rattle.pricing_laws.specs.Groupings.{Groups, weight_at, gain_at}
use Rattle.pricing_laws.specs.Parts.{IsPart, left_of}

-- the slab costs no less than this with its sign turned, if it holds the load
abbrev pub IsEndOf : Mill → Prices → ℕ → Kind → ℤ → Type 0
IsEndOf m p load kind end =
    IsInStock m kind → load ≤ size_of m kind → (pos 0 -ℤ cost_of m p kind) ≤ℤ end

-- for each load, no less than what a slab that holds it costs, with its sign turned
pub record AreEnds (m : Mill) (p : Prices) (ends : List ℤ) : Type 0 where
  pub room : (kind : Kind) → IsInStock m kind → size_of m kind < length ends
  pub some : 0 < length ends
  pub narrow : length ends ≤ most_weight + 1
  pub least : (load : ℕ) (kind : Kind) → IsEndOf m p load kind (slice_index_or ends load (pos 0))
  pub small : (load : ℕ) → load < length ends
      → unsigned_abs (slice_index_or ends load (pos 0)) ≤ 2 ^ 100

-- no part of the groups left gains more than this beside a load, less the cost of a slab that holds both
abbrev pub IsMost : Mill → Prices → Groups → List ℕ → ℕ → ℤ → Type 0
IsMost m p g left load most =
    (more : List ℕ) (kind : Kind) → IsPart more left → IsInStock m kind
    → load + sum_by (weight_at g) more ≤ size_of m kind
    → (total_by (gain_at g) more -ℤ cost_of m p kind) ≤ℤ most

-- ---- a table

-- the groups of a queue have gains and weights
pub record AreWeighed (g : Groups) (queue : List ℕ) : Type 0 where
  pub gains : (k : ℕ) → k < length queue → slice_index_or queue k 0 < length g.gains
  pub weights : (k : ℕ) → k < length queue → slice_index_or queue k 0 < length g.weights
  pub small : (head : ℕ) → head < length g.gains → unsigned_abs (gain_at g head) ≤ 2 ^ 84

-- the columns of a table stand for multiples of a step of the load, as far as there are loads
pub record AreSteps (loads step width : ℕ) : Type 0 where
  pub some : 0 < step
  pub wide : (loads - 1) / step < width
  pub narrow : width ≤ loads
  pub within : (column : ℕ) → column < width → column * step < loads

-- a size of slabs, and a value that is no more than the end of each load that they hold
pub record IsEnd (ends : List ℤ) (size : ℕ) (value : ℤ) : Type 0 where
  pub room : size < length ends
  pub below : (load : ℕ) → load ≤ size → value ≤ℤ slice_index_or ends load (pos 0)

-- the entries of a table are small enough to be added to
abbrev pub AreSmall : List ℤ → Type 0
AreSmall table =
    (k : ℕ) → k < length table → unsigned_abs (slice_index_or table k (pos 0)) ≤ 2 ^ 100 + k * 2 ^ 84

-- a row of the table for each number of groups, with an entry for each column: no part of the first so many groups that such slabs hold beside the column's load gains more, with the value
pub record IsTable (g : Groups) (queue : List ℕ) (ends : List ℤ) (step width : ℕ) (table : List ℤ) : Type 0 where
  pub most : (left column : ℕ) (more : List ℕ) (size : ℕ) (value : ℤ) → column < width
      → left * width + column < length table → IsPart more (left_of queue left)
      → IsEnd ends size value → column * step + sum_by (weight_at g) more ≤ size
      → (total_by (gain_at g) more +ℤ value) ≤ℤ slice_index_or table (left * width + column) (pos 0)
  pub small : AreSmall table
