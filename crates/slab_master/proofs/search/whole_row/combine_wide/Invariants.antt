use Rattle.std.proofs.Common.{◌≤◌}
use Rattle.slab_master.proofs.search.whole_row.combine_wide.Given as goal

abbrev pub invariant-loop-x : goal.invariant-loop-x
invariant-loop-x l = l.fn.wides ≤ l.wides
