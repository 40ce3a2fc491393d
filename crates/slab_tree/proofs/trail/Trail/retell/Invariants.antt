use Rattle.slab_tree.specs.Trails.{HasExtentOf}
use Rattle.slab_tree.proofs.trail.Trail.retell.Given as goal

abbrev pub invariant-loop-ask : goal.invariant-loop-ask
invariant-loop-ask l = HasExtentOf l.mill l.decisions
