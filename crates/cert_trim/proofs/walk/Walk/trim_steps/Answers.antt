use Rattle.std.proofs.Common.{◌≡◌, ap, ap₂, ◌∙◌}
use Rattle.cert_trim.specs.Walks.{AreTrimmedNodes}
use Rattle.tree_nodes.specs.Nodes.{joined, steps_in}
use Rattle.cert_trim.specs.Certificates.{AreTrimmedSteps}
use Rattle.std.proofs.lemmas.Result.{IfOk-weaker}
use Rattle.tree_nodes.proofs.StepLists.{joined_whole, steps_whole}
use Rattle.cert_trim.proofs.walk.Walk.trim_steps.Goals as goal

pub trim_tree-requires-clause-tree : goal.trim_tree-requires-clause-tree
trim_tree-requires-clause-tree c = record {
  tree = c.requires.tree.tree;
  refutes = c.requires.tree.refutes;
  right = c.requires.tree.right;
  nodes_are = c.in_ok-nodes.ensures ∙ ap₂ joined c.requires.tree.steps_are c.requires.tree.marks_are ∙ joined_whole c.requires.tree.tree;
}

pub returns-clause-trimmed : goal.returns-clause-trimmed
returns-clause-trimmed c =
    let nodes = c.in_ok-nodes.ensures ∙ ap₂ joined c.requires.tree.steps_are c.requires.tree.marks_are ∙ joined_whole c.requires.tree.tree in
    let done : AreTrimmedNodes c.args.mill.now c.args.limits c.requires.tree.tree c.in_ok-trimmed.trimmed.items = c.in_ok-trimmed.ensures.trimmed c.requires.tree.tree c.requires.tree.refutes c.requires.tree.right nodes in
    IfOk-weaker c.steps_of_nodes.result (λ s. s ≡ steps_in c.in_ok-trimmed.trimmed.items) (AreTrimmedSteps c.args.mill.now c.args.limits c.args.steps)
    (λ s e. record {
      tree = c.requires.tree.tree;
      shorter = done.new;
      old_is = λ i. record { steps = c.requires.tree.steps_are i; marks = c.requires.tree.marks_are i };
      new_is = e ∙ ap steps_in done.nodes_are ∙ steps_whole done.new;
      trimmed = done.trimmed;
    })
    c.steps_of_nodes.ensures
