use Rattle.std.proofs.Common.{◌≡◌, drop}
use Rattle.std.specs.Prelude.{◌+ℤ◌}
use Rattle.slab_master.specs.Sums.{coefficient}
use Rattle.slab_master.proofs.check.coefficient_at.Given as goal

abbrev pub invariant-loop-entry : goal.invariant-loop-entry
invariant-loop-entry l = (l.total +ℤ coefficient (drop l.entry-index l.column) l.fn.row) ≡ coefficient l.column l.fn.row
