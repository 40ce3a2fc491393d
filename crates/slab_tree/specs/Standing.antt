-- Where a walk through a tree in preorder stands: the nodes decided so far, and the decisions above the next one.
use Rattle.std.specs.Prelude.{◌≡◌, ℕ, suc, Bool, true, false, List, [], ◌∷◌, ◌++◌, Option, Some, None}
use Rattle.mill_model.specs.declared.ask.Ask.{Ask}
use Rattle.mill_model.specs.declared.limits.Limits.{Limits}
use Rattle.mill_model.specs.declared.mark.Mark.{Mark}
use Rattle.mill_model.specs.Mill.{Mill}
use Rattle.mill_model.specs.Prices.{Prices}
use Rattle.mill_model.specs.Decisions.{Decision, IsAskAmong}
use Rattle.mill_model.specs.Trees.{Tree, EverySplit, RefutingTree, listing}
use Rattle.slab_node.specs.Turns.{IsOpenAsk, IsUndecided}
use Rattle.slab_tree.specs.declared.node.Node.{Node}
use Rattle.slab_tree.specs.declared.node.Node.TheVariants.{Closed, Branched}
use Rattle.slab_tree.specs.Marking.{MarkRule}

-- a split's question is one that the decisions leave open, and its mark is as the rule says
pub record IsSplit (m : Mill) (Rule : MarkRule) (mark : Mark) (ask : Ask) (decisions : List Decision) : Type 0 where
  pub opened : IsOpenAsk m decisions ask
  pub marked : Rule mark decisions

-- a finished part of a tree: its leaves refute the limits, each split is as IsSplit says
pub record IsDone (m : Mill) (Rule : MarkRule) (limits : Limits) (t : Tree Mark Prices) (decisions : List Decision) : Type 0 where
  pub refutes : RefutingTree m limits t decisions
  pub splits : EverySplit (IsSplit m Rule) t decisions

abbrev pub nodes_of : Tree Mark Prices → List Node
nodes_of = listing Closed (λ mark ask. Branched ask mark)

-- the nodes before the next one, which lies in the branch for yes: those before the split, then the split
pub record IsInYes (m : Mill) (Rule : MarkRule) (ask : Ask) (path : List Decision) (Before : List Node → Type 0) (nodes : List Node) : Type 0 where
  pub mark : Mark
  pub before : List Node
  pub split : IsSplit m Rule mark ask path
  pub nodes_are : nodes ≡ before ++ Branched ask mark ∷ []
  pub stands : Before before

-- in the branch for no: the finished tree for yes comes after the split
pub record IsInNo (m : Mill) (Rule : MarkRule) (limits : Limits) (ask : Ask) (path : List Decision) (Before : List Node → Type 0) (nodes : List Node) : Type 0 where
  pub mark : Mark
  pub before : List Node
  pub if_yes : Tree Mark Prices
  pub split : IsSplit m Rule mark ask path
  pub done : IsDone m Rule limits if_yes ((ask, true) ∷ path)
  pub nodes_are : nodes ≡ before ++ (Branched ask mark ∷ nodes_of if_yes)
  pub stands : Before before

-- the nodes are those that come before the node whose decisions are the path, the latest first
abbrev pub Stands : Mill → MarkRule → Limits → List Decision → List Node → Type 0
Stands m Rule limits [] nodes = nodes ≡ []
Stands m Rule limits ((ask, true) ∷ path) nodes = IsInYes m Rule ask path (Stands m Rule limits path) nodes
Stands m Rule limits ((ask, false) ∷ path) nodes = IsInNo m Rule limits ask path (Stands m Rule limits path) nodes

-- how many branches wait: the answers yes
abbrev pub waiting : List Decision → ℕ
waiting [] = 0
waiting ((ask, true) ∷ path) = suc (waiting path)
waiting ((ask, false) ∷ path) = waiting path

-- the nodes are a whole tree
pub record IsWhole (m : Mill) (Rule : MarkRule) (limits : Limits) (nodes : List Node) : Type 0 where
  pub tree : Tree Mark Prices
  pub done : IsDone m Rule limits tree []
  pub nodes_are : nodes ≡ nodes_of tree

-- the walk goes on at the next branch, or is done where none waits
abbrev pub GoesOn : Mill → MarkRule → Limits → Option (List Decision) → List Node → Type 0
GoesOn m Rule limits None nodes = IsWhole m Rule limits nodes
GoesOn m Rule limits (Some path) nodes = Stands m Rule limits path nodes

-- each question of a path is among those and open under the decisions before it
abbrev pub IsOpenPath : ℕ → ℕ → List Decision → Type 0
IsOpenPath orders slabs [] = Unit {0}
IsOpenPath orders slabs (d ∷ path) = IsAskAmong orders slabs d.0 × IsUndecided path d.0 × IsOpenPath orders slabs path
