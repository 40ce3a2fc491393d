use Rattle.tree_nodes.proofs.StepLists.{one_mark_each}
use Rattle.tree_nodes.proofs.steps.steps_of_nodes.Goals as goal

pub new-requires : goal.new-requires
new-requires c = rw (c.in_ok-steps.ensures.steps, c.in_ok-steps.ensures.marks) (one_mark_each c.args.nodes.items)
