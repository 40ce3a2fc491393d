use Rattle.std.proofs.Common.{ℕ, ◌<◌, slice_index_or}
use Rattle.std.specs.Prelude.{unsigned_abs}
use Rattle.slab_master.specs.Given.{Row, columns_of}
use Rattle.slab_master.specs.Sums.{row_sum}
use Rattle.slab_master.specs.Spread.{Meets}
use Rattle.slab_master.proofs.check.rows_hold.Given as goal

abbrev pub invariant-loop-i : goal.invariant-loop-i
invariant-loop-i l = (j : ℕ) (row : Row) → j < l.i → Meets (unsigned_abs l.denominator) (slice_index_or l.rows j row) (row_sum l.multipliers (columns_of l.columns) j)
