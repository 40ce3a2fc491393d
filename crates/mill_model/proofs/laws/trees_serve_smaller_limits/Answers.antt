use Rattle.mill_model.proofs.TreeLaws.{tree_smaller}
use Rattle.mill_model.proofs.laws.trees_serve_smaller_limits.Goals as goal

pub returns : goal.returns
returns c = λ m a b decisions steps h refutation. record { tree = refutation.tree; steps_are = refutation.steps_are; refutes = tree_smaller m a b refutation.tree decisions h refutation.refutes }
