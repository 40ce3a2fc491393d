-- What a cover says of each question: how much of it says yes.
use Rattle.std.specs.Prelude.{◌≡◌, ℕ, ◌<◌, ◌≤◌, ◌^◌, ◌⊎◌, ℤ, pos, ◌<ℤ◌, unsigned_abs, cond, ◌&&◌, List, All, length}
use Rattle.std.specs.List.{sum_by}
use Rattle.mill_model.specs.declared.ask.Ask.{Ask}
use Rattle.mill_model.specs.Mill.{Mill}
use Rattle.mill_model.specs.Columns.{Column, has}
use Rattle.mill_model.specs.Covers.{Part}
use Rattle.mill_model.specs.Decisions.{IsAsk, first_test, second_test}
use Rattle.slab_columns.specs.declared.column.ColId.{ColId}
use Rattle.slab_frac.specs.Fraction.{Fraction}
use Rattle.slab_relax.specs.PoolCovers.{Parts}

-- a whole number above 0 for each column that a cover names
pub record AreTimes (columns : List Column) (cover : Parts) (times : List ℤ) : Type 0 where
  pub size : length times ≡ length cover
  pub within : All (λ (part : ColId × Fraction). part.0.0 < length columns) cover
  pub above : All (λ k. pos 0 <ℤ k) times
  pub range : All (λ k. unsigned_abs k ≤ 2 ^ 62) times

-- the multipliers of each order's columns sum to the whole
pub record CoversOrders (m : Mill) (d : ℕ) (parts : List Part) : Type 0 where
  pub positive : 0 < d
  pub orders : (o : ℕ) → o < length m.orders → sum_by (λ (part : Part). cond (has part.0.orders o) part.1 0) parts ≡ d

-- the multipliers of the columns that pass both tests of an ask: that have both orders, or the order on the surplus slab
abbrev pub share : List Part → Ask → ℕ
share parts ask = sum_by (λ (part : Part). cond (first_test ask part.0 && second_test ask part.0) part.1 0) parts

-- the cover answers the ask in part
pub record IsFractional (d : ℕ) (parts : List Part) (ask : Ask) : Type 0 where
  pub some : 0 < share parts ask
  pub less : share parts ask < d

-- the cover answers each ask of the mill by yes or by no
abbrev pub IsWhole : Mill → ℕ → List Part → Type 0
IsWhole m d parts = (ask : Ask) → IsAsk m ask → (share parts ask ≡ 0) ⊎ (share parts ask ≡ d)
