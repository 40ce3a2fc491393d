use Rattle.std.proofs.Common.{take}
use Rattle.slab_repack.specs.FoundPlans.{AreNumberedSoFar}
use Rattle.slab_repack.proofs.judging.are_numbered.Given as goal

abbrev pub invariant-loop-slab : goal.invariant-loop-slab
invariant-loop-slab l = AreNumberedSoFar (take l.slab-index l.place) l.next
