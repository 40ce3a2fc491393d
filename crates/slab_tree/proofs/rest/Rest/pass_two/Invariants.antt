use Rattle.std.proofs.Common.{◌≡◌, ◌+◌, ◌≤◌, length}
use Rattle.slab_tree.specs.Remainders.{after_trees}
use Rattle.slab_tree.proofs.rest.Rest.pass_two.Given as goal

abbrev pub invariant-loop-trees : goal.invariant-loop-trees
invariant-loop-trees l = record {
  left : after_trees l.trees l.self ≡ after_trees 2 l.fn.self;
  few : l.trees + length l.self ≤ 2 + length l.fn.self;
}

abbrev pub decreases-loop-trees : goal.decreases-loop-trees
decreases-loop-trees l = length l.self
