use Rattle.std.proofs.Common.{◌≤◌}
use Rattle.slab_master.proofs.search.basis.clear_column.Given as goal

abbrev pub invariant-loop-row : goal.invariant-loop-row
invariant-loop-row l = l.fn.wides ≤ l.wides
