use Rattle.std.proofs.Common.{◌≡◌, ◌++◌}
use Rattle.std.specs.Vec.Iter.{into_iter_items}
use Rattle.tree_nodes.specs.Nodes.{joined}
use Rattle.tree_nodes.proofs.steps.nodes_of_steps.Given as goal

abbrev pub invariant-loop-step : goal.invariant-loop-step
invariant-loop-step l = l.nodes.items ++ joined l.step-iterator.rest.items (into_iter_items l.marks) ≡ joined l.fn.steps.steps l.fn.steps.marks
