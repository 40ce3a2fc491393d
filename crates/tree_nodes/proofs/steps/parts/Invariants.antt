use Rattle.std.proofs.Common.{◌≡◌, map}
use Rattle.tree_nodes.specs.Nodes.{step_of_node}
use Rattle.tree_nodes.specs.Nodes.{marks_in}
use Rattle.tree_nodes.proofs.steps.parts.Given as goal

abbrev pub invariant-loop-node : goal.invariant-loop-node
invariant-loop-node l = record {
  steps : l.steps.items ≡ map step_of_node l.yielded;
  marks : l.marks.items ≡ marks_in l.yielded;
}
