use Rattle.std.proofs.Common.{◌≡◌, drop}
use Rattle.std.specs.Prelude.{◌+ℤ◌}
use Rattle.slab_master.specs.Given.{columns_of}
use Rattle.slab_master.specs.Sums.{row_sum}
use Rattle.slab_master.proofs.check.row_total.Given as goal

abbrev pub invariant-loop-j : goal.invariant-loop-j
invariant-loop-j l = (l.total +ℤ row_sum (drop l.j l.multipliers) (columns_of (drop l.j l.columns)) l.fn.row) ≡ row_sum l.multipliers (columns_of l.columns) l.fn.row
