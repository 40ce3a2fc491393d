-- What the search over sets of colours keeps.
use Rattle.std.specs.Prelude.{◌≡◌, ℕ, ◌+◌, ◌*◌, ◌<◌, ◌≤◌, ℤ, true, List, length, slice_index_or}
use Rattle.mill_model.specs.Mill.{IsBetween, IsInLimits, most_orders}
use Rattle.mill_model.specs.Columns.{Column, has}
use Rattle.pricing_laws.specs.Bounds.{AreSteps, IsTable}
use Rattle.pricing_laws.specs.Colours.{AreGroupsOf, IsGroupOf, IsOfSet, colour_at}
use Rattle.pricing_laws.specs.Frames.{Frame, IsFrame}
use Rattle.pricing_laws.specs.Parts.{AreDistinct, left_of}
use Rattle.pricing_laws.specs.Problems.{Problem}
use Rattle.pricing_laws.specs.Worths.{AreTaken}

-- a problem of a mill within the limits, and what stands through the search
pub record Search : Type 0 where
  pub problem : Problem
  pub frame : Frame
  pub limits : IsInLimits problem.mill
  pub framed : IsFrame problem frame

-- some of the colours that orders have, as many as a slab may have
pub record AreRanked (s : Search) (colours : List ℕ) : Type 0 where
  pub distinct : AreDistinct colours
  pub known : (colour : ℕ) → has colours colour ≡ true → IsBetween 1 s.problem.mill.colours colour
  pub few : length colours ≤ s.problem.mill.colour_limit

-- the colours taken from the ranking, where so many are left, with their worth
abbrev pub AreTakenFrom : Search → ℕ → List ℕ → ℤ → Type 0
AreTakenFrom s rank taken worth = AreTaken s.frame.worths s.frame.ranking rank taken worth

-- a column of these colours and of at most so many of those left
abbrev pub IsOfSetIn : Search → List ℕ → ℕ → ℕ → Column → Type 0
IsOfSetIn s taken rank left c = IsOfSet s.problem.mill taken (left_of s.frame.ranking rank) left c

-- ---- the queue

-- the heads of the groups of some colours, and a table of bounds, whose columns stand for multiples of a step of the load
pub record Queue : Type 0 where
  pub heads : List ℕ
  pub step : ℕ
  pub width : ℕ
  pub table : List ℤ

-- all of a queue, from the last to the first
abbrev pub whole : List ℕ → List ℕ
whole queue = left_of queue (length queue)

abbrev pub IsGroupIn : Search → List ℕ → ℕ → Type 0
IsGroupIn s colours head = IsGroupOf s.problem.mill s.frame.groups.heads colours head

-- the heads of the groups of the colours whose own colour is one of some
pub record AreGathered (s : Search) (colours some heads : List ℕ) : Type 0 where
  pub distinct : AreDistinct (whole heads)
  pub sound : (head : ℕ) → has (whole heads) head ≡ true → IsGroupIn s colours head
  pub own : (head : ℕ) → has (whole heads) head ≡ true → has some (colour_at s.problem.mill head) ≡ true
  pub all : (head : ℕ) → IsGroupIn s colours head → has some (colour_at s.problem.mill head) ≡ true → has (whole heads) head ≡ true

-- heads of orders
pub record AreHeadsIn (s : Search) (heads : List ℕ) : Type 0 where
  pub few : length heads ≤ most_orders
  pub inside : (k : ℕ) → k < length heads → slice_index_or heads k 0 < length s.problem.mill.orders

pub record IsTabulated (s : Search) (queue : Queue) : Type 0 where
  pub steps : AreSteps (length s.frame.ends) queue.step queue.width
  pub size : length queue.table ≡ (length queue.heads + 1) * queue.width
  pub table : IsTable s.frame.groups queue.heads s.frame.ends queue.step queue.width queue.table

-- all groups of the colours, with their table
pub record IsQueue (s : Search) (colours : List ℕ) (queue : Queue) : Type 0 where
  pub few : length colours ≤ s.problem.mill.colour_limit
  pub groups : AreGroupsOf s.problem.mill s.frame.groups.heads colours (whole queue.heads)
  pub tabulated : IsTabulated s queue
