-- Multipliers of the given columns that meet every row.
use Rattle.std.specs.Prelude.{◌≡◌, ℕ, ◌<◌, ℤ, pos, ◌*ℤ◌, ◌≤ℤ◌, List, length, All, slice_index_or}
use Rattle.slab_frac.specs.Fraction.{Fraction}
use Rattle.slab_frac.specs.Scaled.{IsScaled}
use Rattle.slab_master.specs.declared.given.Sense.{Sense}
use Rattle.slab_master.specs.declared.given.Sense.TheVariants.{Equal, AtMost}
use Rattle.slab_master.specs.Given.{Row, Column}
use Rattle.slab_master.specs.Sums.{row_sum}

abbrev pub MeetsSense : Sense → ℤ → ℤ → Type 0
MeetsSense Equal total right = total ≡ right
MeetsSense AtMost total right = total ≤ℤ right

-- a row's sum over multipliers that stand over d meets its right side
abbrev pub Meets : ℕ → Row → ℤ → Type 0
Meets d row total = MeetsSense row.0 total (row.1 *ℤ pos d)

-- whole numbers over d, none negative, meet every row
pub record IsSpreadAt (rows : List Row) (columns : List Column) (d : ℕ) (multipliers : List ℤ) : Type 0 where
  pub not_negative : All (λ k. pos 0 ≤ℤ k) multipliers
  pub met : (i : ℕ) (row : Row) → i < length rows → Meets d (slice_index_or rows i row) (row_sum multipliers columns i)

-- one number xs per column, none negative, with every row met: over some denominator, and so over each
pub record IsSpread (rows : List Row) (columns : List Column) (xs : List Fraction) : Type 0 where
  pub count : length xs ≡ length columns
  pub denominator : ℕ
  pub multipliers : List ℤ
  pub positive : 0 < denominator
  pub scaled : IsScaled denominator xs multipliers
  pub every : (d : ℕ) (ks : List ℤ) → 0 < d → IsScaled d xs ks → IsSpreadAt rows columns d ks
