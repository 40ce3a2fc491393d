use Rattle.std.proofs.Common.{◌≤◌}
use Rattle.slab_master.proofs.search.basis.fill_direction.Given as goal

abbrev pub invariant-loop-place : goal.invariant-loop-place
invariant-loop-place l = l.fn.wides ≤ l.wides
