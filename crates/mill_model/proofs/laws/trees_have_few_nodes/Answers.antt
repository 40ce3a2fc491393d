use Rattle.std.proofs.Common.{Option, Some, None}
use Rattle.mill_model.specs.declared.ask.Ask.{Ask}
use Rattle.mill_model.specs.declared.steps.Step.TheVariants.{Leaf}
use Rattle.mill_model.specs.Trees.{step_of}
use Rattle.mill_model.specs.Prices.{Refutes}
use Rattle.mill_model.proofs.NodeBound.{nodes_most}
use Rattle.mill_model.proofs.Preorder.{length-listing}
use Rattle.mill_model.proofs.laws.trees_have_few_nodes.Goals as goal

pub returns : goal.returns
returns c = (
  λ m limits steps r. rw (r.steps_are, length-listing Leaf (λ _. step_of) r.tree) (nodes_most m (λ p decisions. Refutes m limits decisions p) r.tree r.refutes),
  λ m steps r. rw (r.steps_are, length-listing {Y = Option Ask} (λ _. None) (λ _. Some) r.tree) (nodes_most m (λ _ _. Unit {0}) r.tree r.fresh),
)
