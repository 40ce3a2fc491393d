-- A finished tree as steps with marks.
use Rattle.std.specs.Prelude.{◌≡◌, List, []}
use Rattle.mill_model.specs.declared.limits.Limits.{Limits}
use Rattle.mill_model.specs.declared.mark.Mark.{Mark}
use Rattle.mill_model.specs.declared.steps.Step.{Step}
use Rattle.mill_model.specs.declared.steps.Step.TheVariants.{Leaf}
use Rattle.mill_model.specs.Mill.{Mill}
use Rattle.mill_model.specs.Prices.{Prices}
use Rattle.mill_model.specs.Assignments.{IsLean}
use Rattle.mill_model.specs.Marks.{MarkedSteps, IsMarkedRefutation}
use Rattle.mill_model.specs.Trees.{IsRefutation, EverySplit, step_of}
use Rattle.slab_tree.specs.declared.node.Node.{Node}
use Rattle.slab_tree.specs.declared.node.Node.TheVariants.{Closed, Branched}
use Rattle.slab_tree.specs.Marking.{ShowsCoverUnlessBare}

abbrev pub step_of_node : Node → Step
step_of_node (Closed p) = Leaf p
step_of_node (Branched ask mark) = step_of ask

-- the steps are those of a lean tree that refutes the limits
pub record IsLeanRefutation (m : Mill) (limits : Limits) (steps : List Step) : Type 0 where
  pub refutation : IsRefutation m limits [] steps
  pub lean : IsLean refutation.tree []

-- a lean tree that refutes the limits, with right marks: each shows a cover within the limits or is bare
pub record IsTightRefutation (m : Mill) (limits : Limits) (s : MarkedSteps) : Type 0 where
  pub refutation : IsMarkedRefutation m limits [] s
  pub lean : IsLean refutation.tree []
  pub shown : EverySplit (λ mark _ decisions. ShowsCoverUnlessBare m limits mark decisions) refutation.tree []
