-- Unfinished trees: their ends carry nothing.
use Rattle.std.specs.Prelude.{◌≡◌, ℕ, ◌+◌, ◌<◌, ◌≤◌, ◌⊎◌, Bool, true, false, List, [], ◌∷◌, ◌++◌, map, Option, Some, None}
use Rattle.mill_model.specs.declared.ask.Ask.{Ask}
use Rattle.mill_model.specs.declared.limits.Limits.{Limits}
use Rattle.mill_model.specs.declared.mark.Mark.{Mark}
use Rattle.mill_model.specs.Mill.{Mill}
use Rattle.mill_model.specs.Decisions.{Decision}
use Rattle.mill_model.specs.Trees.{Tree, IsTree, EverySplit, IsOpenTree, outline, marks_of, nodes as tree_nodes}
use Rattle.mill_model.specs.Trees.Tree.{End, Split}
use Rattle.mill_model.specs.Assignments.{IsLean}
use Rattle.slab_node.specs.Turns.{HasCover}
use Rattle.slab_tree.specs.declared.node.Node.{Node}
use Rattle.slab_tree.specs.declared.node.Node.TheVariants.{Closed, Branched}
use Rattle.slab_tree.specs.Marking.{MarkRule, HasCoverUnlessBare, bare_marks}
use Rattle.slab_tree.specs.Standing.{IsSplit}

abbrev pub Outlined : Type 0
Outlined = Tree Mark (Unit {0})

-- its splits are as the rule says
pub record IsUnfinished (m : Mill) (Rule : MarkRule) (t : Outlined) (decisions : List Decision) : Type 0 where
  pub fresh : IsTree m (λ _ _. Unit {0}) t decisions
  pub splits : EverySplit (IsSplit m Rule) t decisions

-- the path leads to an end of the tree
abbrev pub HasEnd : Outlined → List Decision → List Decision → Type 0
HasEnd (End e) decisions path = path ≡ decisions
HasEnd (Split mark ask if_yes if_no) decisions path = HasEnd if_yes ((ask, true) ∷ decisions) path ⊎ HasEnd if_no ((ask, false) ∷ decisions) path

abbrev pub ask_of : Node → Option Ask
ask_of (Closed p) = None
ask_of (Branched ask mark) = Some ask

abbrev pub marks_in : List Node → List Mark
marks_in [] = []
marks_in (Closed p ∷ ns) = marks_in ns
marks_in (Branched ask mark ∷ ns) = mark ∷ marks_in ns

-- The outline of a search that the node limit cut off: as many nodes as the limit or one fewer, each split with a cover within the
-- limits unless it is bare, and so many of them bare; the end at the path, whose split was refused, with a cover too, unless it is
-- bare.
pub record IsCutTree (m : Mill) (limits : Limits) (limit bares : ℕ) (bare_end : Bool) (path : List Decision) (list : List (Option Ask)) : Type 0 where
  pub tree : Outlined
  pub list_is : list ≡ outline tree
  pub open_tree : IsOpenTree m [] list
  pub lean : IsLean tree []
  pub within : tree_nodes tree ≤ limit
  pub full : limit < tree_nodes tree + 2
  pub covered : EverySplit (λ mark _ decisions. HasCoverUnlessBare m limits mark decisions) tree []
  pub bare_splits : bare_marks (marks_of tree) ≡ bares
  pub has_end : HasEnd tree [] path
  pub covered_end : bare_end ≡ false → HasCover m limits path
