-- The nodes of a finished tree, as steps with marks and back.
use Rattle.std.specs.Prelude.{List, [], ◌∷◌, map, drop}
use Rattle.mill_model.specs.declared.ask.Ask.TheVariants as asks
use Rattle.mill_model.specs.declared.mark.Mark.{Mark}
use Rattle.mill_model.specs.declared.mark.Mark.TheVariants.{Plain}
use Rattle.mill_model.specs.declared.steps.Step.{Step}
use Rattle.mill_model.specs.declared.steps.Step.TheVariants.{Pair, Put, Leaf}
use Rattle.mill_model.specs.Marks.{MarkedSteps}
use Rattle.mill_model.specs.Prices.{Prices}
use Rattle.mill_model.specs.Trees.{Tree, listing, step_of}
use Rattle.tree_nodes.specs.declared.node.Node.{Node}
use Rattle.tree_nodes.specs.declared.node.Node.TheVariants.{Closed, Branched}

-- a tree as a list of nodes, from its root on, the tree for yes before the tree for no
abbrev pub nodes_of : Tree Mark Prices → List Node
nodes_of = listing Closed (λ mark ask. Branched ask mark)

abbrev pub step_of_node : Node → Step
step_of_node (Closed p) = Leaf p
step_of_node (Branched ask mark) = step_of ask

-- the marks of the questions, in order
abbrev pub marks_in : List Node → List Mark
marks_in [] = []
marks_in (Closed p ∷ nodes) = marks_in nodes
marks_in (Branched ask mark ∷ nodes) = mark ∷ marks_in nodes

-- the nodes as steps with marks
abbrev pub steps_in : List Node → MarkedSteps
steps_in nodes = record { steps = map step_of_node nodes; marks = marks_in nodes }

-- the first mark that is left, and a plain one where none is
abbrev pub first_mark : List Mark → Mark
first_mark [] = Plain
first_mark (mark ∷ marks) = mark

-- steps with their marks as nodes: each question takes the next mark
abbrev pub joined : List Step → List Mark → List Node
joined [] marks = []
joined (Leaf p ∷ steps) marks = Closed p ∷ joined steps marks
joined (Pair i j ∷ steps) marks = Branched (asks.Pair i j) (first_mark marks) ∷ joined steps (drop 1 marks)
joined (Put o s ∷ steps) marks = Branched (asks.Put o s) (first_mark marks) ∷ joined steps (drop 1 marks)
