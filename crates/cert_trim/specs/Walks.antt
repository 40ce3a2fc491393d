-- Where a walk through a tree stands.
use Rattle.std.specs.Prelude.{◌≡◌, ◌⊎◌, ◌<◌, ◌^◌, ℕ, zero, suc, Bool, List, [], ◌∷◌, ◌++◌, length, slice_index_or}
use Rattle.mill_model.specs.declared.limits.Limits.{Limits}
use Rattle.mill_model.specs.declared.mark.Mark.{Mark}
use Rattle.mill_model.specs.Mill.{Mill}
use Rattle.mill_model.specs.Prices.{Prices}
use Rattle.mill_model.specs.Marks.{HasRightMarks}
use Rattle.mill_model.specs.Trees.{Tree, RefutingTree}
use Rattle.mill_model.specs.declared.ask.Ask.{Ask}
use Rattle.mill_model.specs.declared.mark.Mark.TheVariants.{Spread}
use Rattle.mill_model.specs.Shares.{Shown}
use Rattle.tree_nodes.specs.declared.node.Node.{Node}
use Rattle.tree_nodes.specs.declared.node.Node.TheVariants.{Branched}
use Rattle.cert_trim.specs.declared.walk.Walk.{Walk}
use Rattle.cert_trim.specs.Trimming.{IsTrimmed}
use Rattle.tree_nodes.specs.Nodes.{nodes_of}
use Rattle.cert_trim.specs.Levels.{Level, decisions_of, places_of, NoneRefutesAbove, IsAtRoot, IsWithin, IsClimbing, IsFinished, IsDone}

-- the path is for this mill
pub record IsFor (m : Mill) (w : Walk) : Type 0 where
  pub orders : w.path.orders ≡ length m.orders
  pub slabs : w.path.slabs ≡ length m.yard

-- whatever mill the path was for, it is for it still
abbrev pub StaysFor : Walk → Walk → Type 0
StaysFor old new = (m : Mill) → IsFor m old → IsFor m new

-- there are so few nodes that parts of a tree can be counted
abbrev pub AreFew : List Node → Type 0
AreFew nodes = length nodes < 2 ^ 63

-- the walk stands before the first node
pub record IsUnmoved (w : Walk) : Type 0 where
  pub decisions : w.path.decisions ≡ []
  pub places : w.places.items ≡ []
  pub left : w.left ≡ 0
  pub written : w.written.items ≡ []

-- the decisions and the places are those of the levels
pub record HasLevels (levels : List Level) (w : Walk) : Type 0 where
  pub decisions : w.path.decisions ≡ decisions_of levels
  pub places : w.places.items ≡ places_of levels

-- the next node is the root of a tree, or part of one for which a leaf stands
abbrev pub StandsAt : Mill → Limits → Tree Mark Prices → List Level → ℕ → List Node → List Node → Type 0
StandsAt m limits whole levels zero written rest = IsAtRoot m limits whole levels written rest
StandsAt m limits whole levels (suc left) written rest = IsWithin m limits whole levels (suc left) written rest

pub record IsOnWay (m : Mill) (limits : Limits) (whole : Tree Mark Prices) (w : Walk) (rest : List Node) : Type 0 where
  pub levels : List Level
  pub has : HasLevels levels w
  pub stands : StandsAt m limits whole levels w.left w.written.items rest

-- the walk is on its way, or the whole tree is read
abbrev pub IsGoing : Mill → Limits → Tree Mark Prices → Walk → List Node → Type 0
IsGoing m limits whole w rest = IsOnWay m limits whole w rest ⊎ IsDone m limits whole w.written.items rest

-- a leaf was read
pub record IsUp (m : Mill) (limits : Limits) (whole : Tree Mark Prices) (w : Walk) (leads : Bool) (p : Prices) (rest : List Node) : Type 0 where
  pub levels : List Level
  pub has : HasLevels levels w
  pub climbing : IsClimbing m limits whole levels w.left leads p w.written.items rest

-- and it doesn't refute at the question above
pub record IsStopped (m : Mill) (limits : Limits) (whole : Tree Mark Prices) (w : Walk) (leads : Bool) (p : Prices) (rest : List Node) : Type 0 where
  pub up : IsUp m limits whole w leads p rest
  pub not : NoneRefutesAbove m limits up.levels (p ∷ [])

-- the tree here was read and written
pub record IsEnd (m : Mill) (limits : Limits) (whole : Tree Mark Prices) (w : Walk) (rest : List Node) : Type 0 where
  pub levels : List Level
  pub has : HasLevels levels w
  pub left : w.left ≡ 0
  pub finished : IsFinished m limits whole levels w.written.items rest

-- the leaf was written where it stands for the tree here, which is done where no part of it is left
pub record IsLaid (m : Mill) (limits : Limits) (whole : Tree Mark Prices) (w : Walk) (rest : List Node) : Type 0 where
  pub done : w.left ≡ 0 → IsEnd m limits whole w rest
  pub within : 0 < w.left → IsGoing m limits whole w rest

-- the nodes are those of a tree that refutes the limits, and its marks are right
pub record AreOfTree (m : Mill) (limits : Limits) (nodes : List Node) : Type 0 where
  pub tree : Tree Mark Prices
  pub refutes : RefutingTree m limits tree []
  pub right : HasRightMarks m limits tree []
  pub nodes_are : nodes ≡ nodes_of tree

-- the nodes are those of the trimmed tree
pub record AreTrimmedNodes (m : Mill) (limits : Limits) (tree : Tree Mark Prices) (nodes : List Node) : Type 0 where
  pub new : Tree Mark Prices
  pub trimmed : IsTrimmed m limits [] tree new
  pub nodes_are : nodes ≡ nodes_of new

-- whatever finished tree has these nodes, its trimmed tree has the new ones
abbrev pub AreTrimmedTo : Mill → Limits → List Node → List Node → Type 0
AreTrimmedTo m limits nodes new =
    (tree : Tree Mark Prices) → RefutingTree m limits tree [] → HasRightMarks m limits tree [] →
    nodes ≡ nodes_of tree → AreTrimmedNodes m limits tree new

-- the question above shows a cover
pub record IsCoveredAbove (w : Walk) : Type 0 where
  pub before : List ℕ
  pub place : ℕ
  pub ask : Ask
  pub shown : Shown
  pub places : w.places.items ≡ before ++ place ∷ []
  pub stands : (d : Node) → slice_index_or w.written.items place d ≡ Branched ask (Spread shown)
