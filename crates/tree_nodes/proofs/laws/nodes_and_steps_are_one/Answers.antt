use Rattle.tree_nodes.proofs.StepLists.{joined_nodes, one_mark_each, steps_joined}
use Rattle.tree_nodes.proofs.laws.nodes_and_steps_are_one.Goals as goal

pub returns : goal.returns
returns c = record { nodes = record { back = joined_nodes; marked = one_mark_each }; steps = λ s h. steps_joined s.steps s.marks h }
