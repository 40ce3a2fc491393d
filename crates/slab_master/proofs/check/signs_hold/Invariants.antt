use Rattle.std.proofs.Common.{ℕ, ◌<◌, slice_index_or}
use Rattle.slab_master.specs.Given.{Row}
use Rattle.slab_master.specs.Sums.{number_at}
use Rattle.slab_master.specs.Prices.{AtMostZero}
use Rattle.slab_master.proofs.check.signs_hold.Given as goal

abbrev pub invariant-loop-i : goal.invariant-loop-i
invariant-loop-i l = (j : ℕ) (row : Row) → j < l.i → AtMostZero (slice_index_or l.rows j row) (number_at l.numbers j)
