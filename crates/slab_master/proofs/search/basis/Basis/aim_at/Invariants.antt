use Rattle.std.proofs.Common.{◌≤◌}
use Rattle.slab_master.proofs.search.basis.Basis.aim_at.Given as goal

abbrev pub invariant-loop-place : goal.invariant-loop-place
invariant-loop-place l = l.fn.wides ≤ l.wides
