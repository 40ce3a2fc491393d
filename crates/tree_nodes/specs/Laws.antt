-- What joins nodes, steps with marks, and trees, as statements.
use Rattle.std.specs.Prelude.{◌≡◌, List}
use Rattle.mill_model.specs.declared.mark.Mark.{Mark}
use Rattle.mill_model.specs.Marks.{MarkedSteps, HasOneMarkEach}
use Rattle.mill_model.specs.Prices.{Prices}
use Rattle.mill_model.specs.Trees.{Tree, preorder, marks_of}
use Rattle.tree_nodes.specs.declared.node.Node.{Node}
use Rattle.tree_nodes.specs.Nodes.{nodes_of, steps_in, joined}

-- Nodes come back from their steps and marks, of which there is one for each question.
pub record NodesComeBack : Type 0 where
  pub back : (nodes : List Node) → joined (steps_in nodes).steps (steps_in nodes).marks ≡ nodes
  pub marked : (nodes : List Node) → HasOneMarkEach (steps_in nodes)

-- Steps with a mark for each question come back from their nodes.
abbrev pub StepsComeBack : Type 0
StepsComeBack = (s : MarkedSteps) → HasOneMarkEach s → steps_in (joined s.steps s.marks) ≡ s

-- The steps and marks of a tree, joined, are its nodes.
abbrev pub NodesOfTrees : Type 0
NodesOfTrees = (t : Tree Mark Prices) → joined (preorder t) (marks_of t) ≡ nodes_of t

-- The nodes of a tree are its steps and marks.
abbrev pub StepsOfTrees : Type 0
StepsOfTrees = (t : Tree Mark Prices) → steps_in (nodes_of t) ≡ record { steps = preorder t; marks = marks_of t }
