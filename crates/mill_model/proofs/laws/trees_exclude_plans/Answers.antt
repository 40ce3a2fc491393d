use Rattle.std.proofs.Common.{[]}
use Rattle.mill_model.proofs.TreeLaws.{tree_refutes}
use Rattle.mill_model.proofs.laws.trees_exclude_plans.Goals as goal

pub returns : goal.returns
returns c = λ m limits steps p refutation legal within. tree_refutes m limits refutation.tree [] p tt refutation.refutes legal tt within
