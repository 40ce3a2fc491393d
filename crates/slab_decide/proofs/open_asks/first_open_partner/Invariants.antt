use Rattle.slab_decide.specs.OpenAsks.{ArePairsClosedFor}
use Rattle.slab_decide.proofs.open_asks.first_open_partner.Given as goal

abbrev pub invariant-loop-j : goal.invariant-loop-j
invariant-loop-j l = ArePairsClosedFor l.relations l.yard l.i l.j
