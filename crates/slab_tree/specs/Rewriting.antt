-- Where the walk through an old tree stands while a new one is written.
use Rattle.std.specs.Prelude.{◌≡◌, ℕ, ◌+◌, ◌≤◌, ◌⊎◌, Bool, true, false, List, [], ◌∷◌, ◌++◌, length}
use Rattle.mill_model.specs.declared.ask.Ask.{Ask}
use Rattle.mill_model.specs.declared.limits.Limits.{Limits}
use Rattle.mill_model.specs.declared.mark.Mark.{Mark}
use Rattle.mill_model.specs.Mill.{Mill}
use Rattle.mill_model.specs.Plans.{Plan}
use Rattle.mill_model.specs.Prices.{Prices, Refutes}
use Rattle.mill_model.specs.Decisions.{Decision}
use Rattle.mill_model.specs.Trees.{Tree}
use Rattle.slab_counter.specs.Counter.{last_count}
use Rattle.slab_relax.specs.declared.tally.Tally.{Tally}
use Rattle.slab_relax.specs.Tallies.{HasCause}
use Rattle.slab_node.specs.Turns.{IsInBox}
use Rattle.slab_tree.specs.declared.node.Node.{Node}
use Rattle.slab_tree.specs.declared.tree.Phase.TheVariants.{Running, Done}
use Rattle.slab_tree.specs.declared.tree.tighten.Renewed.{Renewed}
use Rattle.slab_tree.specs.declared.tree.tighten.Renewed.TheVariants.{Leaf, Split}
use Rattle.slab_tree.specs.Counts.{Counts, noted_bare}
use Rattle.slab_tree.specs.Marking.{MarkRule, HoldsCover, ShowsCoverUnlessBare, is_bare}
use Rattle.slab_tree.specs.Searches.{Search, limits_of, opening_of, bare_count}
use Rattle.slab_tree.specs.Standing.{IsDone, IsWhole, Stands, nodes_of}
use Rattle.slab_tree.specs.Tightening.{IsSameTree, covered_count}

-- the branches for no that wait on the path come next, one after another
pub record BranchesComeNext (m : Mill) (Rule : MarkRule) (limits : Limits) (ask : Ask) (path : List Decision) (Later : List Node → Type 0) (nodes : List Node) : Type 0 where
  pub if_no : Tree Mark Prices
  pub more : List Node
  pub done : IsDone m Rule limits if_no ((ask, false) ∷ path)
  pub nodes_are : nodes ≡ nodes_of if_no ++ more
  pub later : Later more

abbrev pub AreToCome : Mill → MarkRule → Limits → List Decision → List Node → Type 0
AreToCome m Rule limits [] nodes = nodes ≡ []
AreToCome m Rule limits ((ask, true) ∷ path) nodes = BranchesComeNext m Rule limits ask path (AreToCome m Rule limits path) nodes
AreToCome m Rule limits ((ask, false) ∷ path) nodes = AreToCome m Rule limits path nodes

-- the nodes that are left begin with the finished tree at the path, and go on with the waiting branches
pub record IsAtTree (m : Mill) (Rule : MarkRule) (limits : Limits) (path : List Decision) (nodes : List Node) : Type 0 where
  pub tree : Tree Mark Prices
  pub more : List Node
  pub done : IsDone m Rule limits tree path
  pub nodes_are : nodes ≡ nodes_of tree ++ more
  pub to_come : AreToCome m Rule limits path more

-- the next node of the new tree is the root of the next tree of the old one
pub record IsRewriting (m : Mill) (t : Search) (rest : List Node) : Type 0 where
  pub running : t.phase ≡ Running
  pub stands : Stands m (ShowsCoverUnlessBare m (limits_of t)) (limits_of t) t.path t.nodes
  pub at_tree : IsAtTree m (HoldsCover m (opening_of t)) (limits_of t) t.path rest

-- the new tree is whole, and nothing of the old one is left
pub record IsRewritten (m : Mill) (t : Search) (rest : List Node) : Type 0 where
  pub finished : t.phase ≡ Done
  pub whole : IsWhole m (ShowsCoverUnlessBare m (limits_of t)) (limits_of t) t.nodes
  pub nothing_left : rest ≡ []

abbrev pub IsWalk : Mill → Search → List Node → Type 0
IsWalk m t rest = IsRewriting m t rest ⊎ IsRewritten m t rest

-- a step of the walk: the node that was read is done with
pub record MovesOn (m : Mill) (old new : Search) (node : Node) (before after : List Node) : Type 0 where
  pub same : IsSameTree old new
  pub walk : IsWalk m new after
  pub shorter : length after ≤ length before
  pub fewer : length new.nodes + length after ≤ length old.nodes + length (node ∷ before)

-- the mark isn't bare, and a cover that it shows for the opening limits is within the present ones
pub record StillShows (m : Mill) (t : Search) (mark : Mark) : Type 0 where
  pub covered : is_bare mark ≡ false
  pub shows : (decisions : List Decision) → HoldsCover m (opening_of t) mark decisions → ShowsCoverUnlessBare m (limits_of t) mark decisions

-- no plan within the limits agrees with the decisions
abbrev pub HasNoPlanAt : Mill → Limits → List Decision → Type 0
HasNoPlanAt m limits path = (p : Plan) → IsInBox m limits path p → ⊥

-- what a split becomes: a leaf, whose prices refute the limits, or a split again, which shows a cover unless a cause made it bare
abbrev pub IsRenewed : Mill → Limits → List Decision → Tally → Tally → Renewed → Type 0
IsRenewed m limits path before after (Leaf prices) = Refutes m limits path prices
IsRenewed m limits path before after (Split mark) = ShowsCoverUnlessBare m limits mark path × (is_bare mark ≡ true → HasCause before after)

-- ---- the counts

-- What was counted while nodes were read from `before` to `after`, and written from `first` to `last`.
pub record IsTallied (old new : Counts) (first last before after : List Node) : Type 0 where
  pub no_more : new.bare + bare_count first ≤ old.bare + bare_count last
  pub once : new.bare + covered_count after ≤ old.bare + covered_count before
  pub counted : (bare_count last + bare_count after + old.bare ≤ bare_count first + bare_count before + new.bare) ⊎ (last_count ≤ new.bare)

-- what the counts do at each step
pub record AreKept (old new : Counts) : Type 0 where
  pub limit : new.limit ≡ old.limit
  pub opened : new.opened ≡ old.opened
  pub rises : old.bare ≤ new.bare

-- a split that became bare is counted where there is room
abbrev pub IsNoted : Bool → Bool → Counts → Counts → Type 0
IsNoted true false old new = new ≡ noted_bare old
IsNoted true true old new = new ≡ old
IsNoted false counted old new = new ≡ old
