use Rattle.slab_decide.specs.OpenAsks.{ArePutsClosed}
use Rattle.slab_decide.proofs.open_asks.first_open_put.Given as goal

abbrev pub invariant-loop-o : goal.invariant-loop-o
invariant-loop-o l = ArePutsClosed l.relations l.yard l.o
