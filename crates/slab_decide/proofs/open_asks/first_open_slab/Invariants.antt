use Rattle.slab_decide.specs.OpenAsks.{ArePutsClosedFor}
use Rattle.slab_decide.proofs.open_asks.first_open_slab.Given as goal

abbrev pub invariant-loop-s : goal.invariant-loop-s
invariant-loop-s l = ArePutsClosedFor l.relations l.yard l.o l.s
