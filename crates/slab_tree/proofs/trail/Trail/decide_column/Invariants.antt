use Rattle.slab_tree.specs.Trails.{HasExtentOf}
use Rattle.slab_tree.proofs.trail.Trail.decide_column.Given as goal

abbrev pub invariant-loop-other : goal.invariant-loop-other
invariant-loop-other l = HasExtentOf l.mill l.decisions
