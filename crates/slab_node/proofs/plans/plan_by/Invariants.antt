use Rattle.std.proofs.Common.{◌≤◌, length}
use Rattle.slab_node.specs.Built.{IsBuilt}
use Rattle.slab_node.proofs.plans.plan_by.Given as goal

abbrev pub invariant-loop-o : goal.invariant-loop-o
invariant-loop-o l = record { built : IsBuilt l.heads l.kinds l.o l.used.items l.place.items; few : length l.used.items ≤ l.o }
