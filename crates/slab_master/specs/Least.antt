-- Multipliers of least cost, and the prices that show that none cost less (the duality of linear programs).
use Rattle.std.specs.Prelude.{◌≡◌, ℕ, ◌<◌, ℤ, pos, ◌*ℤ◌, ◌≤ℤ◌, List, length, All, slice_index_or}
use Rattle.slab_frac.specs.Fraction.{Fraction}
use Rattle.slab_frac.specs.Scaled.{IsScaled}
use Rattle.slab_master.specs.Given.{Given, Row, Column, IsSmall}
use Rattle.slab_master.specs.Sums.{number_at, product_of, right_product, cost_sum}
use Rattle.slab_master.specs.Prices.{AtMostZero}
use Rattle.slab_master.specs.Spread.{IsSpread, IsSpreadAt}

-- what n columns cost, each 0 to 2^40
pub record AreCosts (n : ℕ) (costs : List ℤ) : Type 0 where
  pub count : length costs ≡ n
  pub not_negative : All (λ c. pos 0 ≤ℤ c) costs
  pub small : All IsSmall costs

-- whole numbers over d that are at most 0 on the AtMost rows, and whose product with each column is at most its cost
pub record AreDualPricesAt (rows : List Row) (columns : List Column) (costs : List ℤ) (d : ℕ) (numbers : List ℤ) : Type 0 where
  pub signs : (i : ℕ) (row : Row) → i < length rows → AtMostZero (slice_index_or rows i row) (number_at numbers i)
  pub products : (j : ℕ) (column : Column) → j < length columns → product_of numbers (slice_index_or columns j column) ≤ℤ (number_at costs j *ℤ pos d)

-- one such price ys per row: over some denominator, and so over each
pub record AreDualPrices (rows : List Row) (columns : List Column) (costs : List ℤ) (ys : List Fraction) : Type 0 where
  pub count : length ys ≡ length rows
  pub denominator : ℕ
  pub numbers : List ℤ
  pub positive : 0 < denominator
  pub scaled : IsScaled denominator ys numbers
  pub every : (d : ℕ) (js : List ℤ) → 0 < d → IsScaled d ys js → AreDualPricesAt rows columns costs d js

-- the product of the prices ys with the right sides is the cost of the multipliers xs, over every two denominators
abbrev pub AreWorthTheCost : List Row → List ℤ → List Fraction → List Fraction → Type 0
AreWorthTheCost rows costs xs ys = (d e : ℕ) (ks js : List ℤ) → 0 < d → 0 < e → IsScaled d xs ks → IsScaled e ys js → right_product js rows *ℤ pos d ≡ cost_sum ks costs *ℤ pos e

-- multipliers xs cost no more than any over e that meet every row
abbrev pub CostLeast : List Row → List Column → List ℤ → List Fraction → Type 0
CostLeast rows columns costs xs = (d e : ℕ) (ks js : List ℤ) → 0 < d → 0 < e → IsScaled d xs ks → IsSpreadAt rows columns e js → (cost_sum ks costs *ℤ pos e) ≤ℤ (cost_sum js costs *ℤ pos d)

-- xs meet every row and cost least, as ys show
pub record IsLeast (given : Given) (costs : List ℤ) (xs ys : List Fraction) : Type 0 where
  pub spread : IsSpread given.rows given.columns xs
  pub duals : AreDualPrices given.rows given.columns costs ys
  pub worth : AreWorthTheCost given.rows costs xs ys
  pub least : CostLeast given.rows given.columns costs xs
