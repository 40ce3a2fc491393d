use Rattle.std.proofs.Common.{◌≡◌, map}
use Rattle.slab_tree.specs.Steps.{step_of_node}
use Rattle.slab_tree.specs.Unfinished.{marks_in}
use Rattle.slab_tree.proofs.tree.Tree.parts.Given as goal

abbrev pub invariant-loop-node : goal.invariant-loop-node
invariant-loop-node l = record {
  steps : l.steps.items ≡ map step_of_node l.yielded;
  marks : l.marks.items ≡ marks_in l.yielded;
}
