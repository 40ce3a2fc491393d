use Rattle.slab_decide.specs.OpenAsks.{ArePairsClosed}
use Rattle.slab_decide.proofs.open_asks.first_open_pair.Given as goal

abbrev pub invariant-loop-i : goal.invariant-loop-i
invariant-loop-i l = ArePairsClosed l.relations l.yard l.orders l.i
