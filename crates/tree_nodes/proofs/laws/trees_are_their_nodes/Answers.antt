use Rattle.tree_nodes.proofs.StepLists.{joined_whole, steps_whole}
use Rattle.tree_nodes.proofs.laws.trees_are_their_nodes.Goals as goal

pub returns : goal.returns
returns c = record { nodes = joined_whole; steps = steps_whole }
