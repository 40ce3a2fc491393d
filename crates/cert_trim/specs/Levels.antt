-- The levels above the next node of a walk: a question, in one of its branches.
use Rattle.std.specs.Prelude.{◌≡◌, ℕ, Bool, true, false, List, [], ◌∷◌, ◌++◌, length}
use Rattle.mill_model.specs.declared.ask.Ask.{Ask}
use Rattle.mill_model.specs.declared.limits.Limits.{Limits}
use Rattle.mill_model.specs.declared.mark.Mark.{Mark}
use Rattle.mill_model.specs.Mill.{Mill}
use Rattle.mill_model.specs.Prices.{Prices}
use Rattle.mill_model.specs.Decisions.{Decision}
use Rattle.mill_model.specs.Trees.{Tree}
use Rattle.mill_model.specs.Trees.Tree.{Split}
use Rattle.tree_nodes.specs.declared.node.Node.{Node}
use Rattle.tree_nodes.specs.declared.node.Node.TheVariants.{Closed, Branched}
use Rattle.tree_nodes.specs.Nodes.{nodes_of}
use Rattle.cert_trim.specs.Trimming.{ends_of, NoneRefutes, IsFirst, IsTrimmed}

-- in the branch for yes, with the branch for no to come; or in the branch for no, with that for yes and what was written of it
pub data Level : Type 0 where
  InYes : Mark → Ask → Tree Mark Prices → Level
  InNo : Mark → Ask → Tree Mark Prices → Tree Mark Prices → Level

abbrev pub decisions_of : List Level → List Decision
decisions_of [] = []
decisions_of (InYes mark ask if_no ∷ levels) = (ask, true) ∷ decisions_of levels
decisions_of (InNo mark ask if_yes written ∷ levels) = (ask, false) ∷ decisions_of levels

-- the tree that has this one at its place
abbrev pub whole_of : List Level → Tree Mark Prices → Tree Mark Prices
whole_of [] t = t
whole_of (InYes mark ask if_no ∷ levels) t = whole_of levels (Split mark ask t if_no)
whole_of (InNo mark ask if_yes written ∷ levels) t = whole_of levels (Split mark ask if_yes t)

-- the nodes that were written before the next one
abbrev pub written_of : List Level → List Node
written_of [] = []
written_of (InYes mark ask if_no ∷ levels) = written_of levels ++ Branched ask mark ∷ []
written_of (InNo mark ask if_yes written ∷ levels) = written_of levels ++ Branched ask mark ∷ nodes_of written

-- the nodes that are to come after the tree here
abbrev pub coming_of : List Level → List Node
coming_of [] = []
coming_of (InYes mark ask if_no ∷ levels) = nodes_of if_no ++ coming_of levels
coming_of (InNo mark ask if_yes written ∷ levels) = coming_of levels

-- how many nodes were written before each question, the latest last
abbrev pub places_of : List Level → List ℕ
places_of [] = []
places_of (level ∷ levels) = places_of levels ++ length (written_of levels) ∷ []

-- a branch for no is to come
abbrev pub waits : Level → ℕ
waits (InYes mark ask if_no) = 1
waits (InNo mark ask if_yes written) = 0

-- what was written of each branch for yes is its trimmed tree, and no leaf of it refutes at its question
abbrev pub AreTrimmed : Mill → Limits → List Level → Type 0
AreTrimmed m limits [] = Unit {0}
AreTrimmed m limits (InYes mark ask if_no ∷ levels) = AreTrimmed m limits levels
AreTrimmed m limits (InNo mark ask if_yes written ∷ levels) =
    IsTrimmed m limits ((ask, true) ∷ decisions_of levels) if_yes written × NoneRefutes m limits (decisions_of levels) (ends_of if_yes) × AreTrimmed m limits levels

-- no leaf of the list refutes at the question above
abbrev pub NoneRefutesAbove : Mill → Limits → List Level → List Prices → Type 0
NoneRefutesAbove m limits [] leaves = Unit {0}
NoneRefutesAbove m limits (level ∷ levels) leaves = NoneRefutes m limits (decisions_of levels) leaves

abbrev pub forest_nodes : List (Tree Mark Prices) → List Node
forest_nodes [] = []
forest_nodes (t ∷ ts) = nodes_of t ++ forest_nodes ts

abbrev pub forest_ends : List (Tree Mark Prices) → List Prices
forest_ends [] = []
forest_ends (t ∷ ts) = ends_of t ++ forest_ends ts

-- ---- where a walk stands

-- the next node is the root of a tree that is read for itself
pub record IsAtRoot (m : Mill) (limits : Limits) (whole : Tree Mark Prices) (levels : List Level) (written rest : List Node) : Type 0 where
  pub tree : Tree Mark Prices
  pub whole_is : whole ≡ whole_of levels tree
  pub trimmed : AreTrimmed m limits levels
  pub written_is : written ≡ written_of levels
  pub rest_is : rest ≡ nodes_of tree ++ coming_of levels

-- a tree below the levels was replaced by its first leaf that refutes here, and these parts of it are still to be read
pub record IsWithin (m : Mill) (limits : Limits) (whole : Tree Mark Prices) (levels : List Level) (left : ℕ) (written rest : List Node) : Type 0 where
  pub tree : Tree Mark Prices
  pub leaf : Prices
  pub read : List Prices
  pub parts : List (Tree Mark Prices)
  pub whole_is : whole ≡ whole_of levels tree
  pub trimmed : AreTrimmed m limits levels
  pub written_is : written ≡ written_of levels ++ Closed leaf ∷ []
  pub rest_is : rest ≡ forest_nodes parts ++ coming_of levels
  pub left_is : left ≡ length parts
  pub ends_are : ends_of tree ≡ read ++ forest_ends parts
  pub first : IsFirst m limits (decisions_of levels) read leaf
  pub above : NoneRefutesAbove m limits levels read

-- the leaf that stands for the tree here: the one that was read, which isn't written yet, or an earlier one, which is
abbrev pub IsLead : Bool → Prices → Prices → List Level → List Node → Type 0
IsLead true p leaf levels written = (leaf ≡ p) × (written ≡ written_of levels)
IsLead false p leaf levels written = written ≡ written_of levels ++ Closed leaf ∷ []

abbrev pub lead_nodes : Bool → Prices → List Node
lead_nodes true p = Closed p ∷ []
lead_nodes false p = []

-- a leaf was read, and it isn't known yet whether it refutes at the question above
pub record IsClimbing (m : Mill) (limits : Limits) (whole : Tree Mark Prices) (levels : List Level) (left : ℕ) (leads : Bool) (p : Prices) (written rest : List Node) : Type 0 where
  pub tree : Tree Mark Prices
  pub leaf : Prices
  pub read : List Prices
  pub parts : List (Tree Mark Prices)
  pub whole_is : whole ≡ whole_of levels tree
  pub trimmed : AreTrimmed m limits levels
  pub lead : IsLead leads p leaf levels written
  pub rest_is : rest ≡ forest_nodes parts ++ coming_of levels
  pub left_is : left ≡ length parts
  pub ends_are : ends_of tree ≡ read ++ p ∷ forest_ends parts
  pub first : IsFirst m limits (decisions_of levels) (read ++ p ∷ []) leaf
  pub above : NoneRefutesAbove m limits levels read

-- the tree here was read, and its trimmed tree is written
pub record IsFinished (m : Mill) (limits : Limits) (whole : Tree Mark Prices) (levels : List Level) (written rest : List Node) : Type 0 where
  pub tree : Tree Mark Prices
  pub new : Tree Mark Prices
  pub whole_is : whole ≡ whole_of levels tree
  pub trimmed : AreTrimmed m limits levels
  pub written_is : written ≡ written_of levels ++ nodes_of new
  pub rest_is : rest ≡ coming_of levels
  pub is_trimmed : IsTrimmed m limits (decisions_of levels) tree new
  pub above : NoneRefutesAbove m limits levels (ends_of tree)

-- the whole tree was read, and its trimmed tree is written
pub record IsDone (m : Mill) (limits : Limits) (whole : Tree Mark Prices) (written rest : List Node) : Type 0 where
  pub new : Tree Mark Prices
  pub trimmed : IsTrimmed m limits [] whole new
  pub written_is : written ≡ nodes_of new
  pub rest_is : rest ≡ []
