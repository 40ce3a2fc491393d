use Rattle.slab_tree.specs.Trails.{HasExtentOf}
use Rattle.slab_tree.proofs.dives.decide_columns.Given as goal

abbrev pub invariant-loop-share : goal.invariant-loop-share
invariant-loop-share l = HasExtentOf l.mill l.decisions
