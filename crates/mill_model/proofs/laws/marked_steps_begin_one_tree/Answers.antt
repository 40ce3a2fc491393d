use Rattle.mill_model.proofs.Preorder.{one_marked_tree}
use Rattle.mill_model.proofs.laws.marked_steps_begin_one_tree.Goals as goal

pub returns : goal.returns
returns c = one_marked_tree
