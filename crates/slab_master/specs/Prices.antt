-- Prices of the rows that show that no multipliers meet them all (Farkas' lemma).
use Rattle.std.specs.Prelude.{◌≡◌, ℕ, ◌<◌, ℤ, pos, ◌≤ℤ◌, ◌<ℤ◌, List, length, All, slice_index_or}
use Rattle.slab_frac.specs.Fraction.{Fraction}
use Rattle.slab_frac.specs.Scaled.{IsScaled}
use Rattle.slab_master.specs.declared.given.Sense.{Sense}
use Rattle.slab_master.specs.declared.given.Sense.TheVariants.{Equal, AtMost}
use Rattle.slab_master.specs.Given.{Row, Column}
use Rattle.slab_master.specs.Sums.{number_at, product_of, right_product}

abbrev pub AtMostZeroSense : Sense → ℤ → Type 0
AtMostZeroSense Equal k = Unit {0}
AtMostZeroSense AtMost k = k ≤ℤ pos 0

-- a price is at most 0 on an AtMost row
abbrev pub AtMostZero : Row → ℤ → Type 0
AtMostZero row k = AtMostZeroSense row.0 k

-- whole numbers that are at most 0 on the AtMost rows, whose product with each column is at most 0 and with the right
-- sides above 0
pub record ArePricesAt (rows : List Row) (columns : List Column) (numbers : List ℤ) : Type 0 where
  pub signs : (i : ℕ) (row : Row) → i < length rows → AtMostZero (slice_index_or rows i row) (number_at numbers i)
  pub products : All (λ c. product_of numbers c ≤ℤ pos 0) columns
  pub above : pos 0 <ℤ right_product numbers rows

-- one price ys per row that shows this: over some denominator, and so over each
pub record ArePrices (rows : List Row) (columns : List Column) (ys : List Fraction) : Type 0 where
  pub count : length ys ≡ length rows
  pub denominator : ℕ
  pub numbers : List ℤ
  pub positive : 0 < denominator
  pub scaled : IsScaled denominator ys numbers
  pub every : (d : ℕ) (js : List ℤ) → 0 < d → IsScaled d ys js → ArePricesAt rows columns js
