-- One question's tree as contracts see it, and what is known of it at each moment.
use Rattle.std.specs.Prelude.{◌≡◌, ℕ, ℤ, pos, ◌+◌, ◌-◌, ◌-ℤ◌, ◌<◌, ◌≤◌, ◌⊎◌, Bool, true, false, List, [], ◌++◌, length, map, replicate, Option, Some, None, IsSomeAnd}
use Rattle.mill_model.specs.declared.ask.Ask.{Ask}
use Rattle.mill_model.specs.declared.limits.Limits.{Limits}
use Rattle.mill_model.specs.Mill.{Mill}
use Rattle.mill_model.specs.Plans.{Plan, IsLegal, sums_of}
use Rattle.mill_model.specs.Limits.{AtMost, AreSmaller, number_of}
use Rattle.mill_model.specs.Starts.{IsStart}
use Rattle.mill_model.specs.Decisions.{Decision}
use Rattle.mill_model.specs.Trees.{most_nodes}
use Rattle.slab_master.specs.Given.{IsSmall}
use Rattle.slab_node.specs.Turns.{HasCover, IsOpenAsk}
use Rattle.slab_tree.specs.declared.node.Node.{Node}
use Rattle.slab_tree.specs.declared.tree.Phase.{Phase}
use Rattle.slab_tree.specs.declared.tree.Phase.TheVariants.{New, Running, Done, Refused}
use Rattle.slab_tree.specs.declared.tree.Ended.{Ended}
use Rattle.slab_tree.specs.declared.tree.Ended.TheVariants.{Least, NoPlan, Budget}
use Rattle.slab_tree.specs.Counts.{Counts, AreRaised}
use Rattle.slab_tree.specs.Marking.{HoldsCover, bare_marks}
use Rattle.slab_tree.specs.Standing.{Stands, IsWhole, waiting}
use Rattle.slab_tree.specs.Unfinished.{marks_in, ask_of}

pub record Search : Type 0 where
  pub count : Option ℤ
  -- the loss limit at the opening, and the present one
  pub opening : Option ℤ
  pub loss : Option ℤ
  -- the best plan that was found or handed in and not handed out yet
  pub best : Option Plan
  -- the decided nodes in preorder
  pub nodes : List Node
  -- the decisions above the next node, the latest first
  pub path : List Decision
  -- the decided nodes, the next one and the waiting ones
  pub opened : ℕ
  pub phase : Phase

abbrev pub limits_of : Search → Limits
limits_of t = record { loss = t.loss; count = t.count }

abbrev pub opening_of : Search → Limits
opening_of t = record { loss = t.opening; count = t.count }

-- one below the plan's loss
abbrev pub loss_below : Mill → Plan → Option ℤ
loss_below m p = Some (pos (sums_of m p).loss -ℤ pos 1)

-- a best plan has one more loss than the loss limit
abbrev pub IsBest : Mill → Option ℤ → Option ℤ → Option Plan → Type 0
IsBest m count loss None = loss ≡ None
IsBest m count loss (Some p) = IsStart m count p × (loss ≡ loss_below m p)

abbrev pub bare_count : List Node → ℕ
bare_count ns = bare_marks (marks_in ns)

-- the limits of a question: the loss limit doesn't rise, and the numbers are small
pub record HasLimitsBelow (t : Search) : Type 0 where
  pub falls : AreSmaller (limits_of t) (opening_of t)
  pub loss : IsSmall (number_of t.loss)
  pub count : IsSmall (number_of t.count)

-- what holds until the best plan is handed out
pub record IsSearch (m : Mill) (t : Search) : Type 0 where
  pub limits : HasLimitsBelow t
  pub best : IsBest m t.count t.loss t.best

-- ---- a tree at each phase

pub record IsNew (m : Mill) (t : Search) : Type 0 where
  pub search : IsSearch m t
  pub unstarted : t.phase ≡ New
  pub no_nodes : t.nodes ≡ []
  pub no_path : t.path ≡ []
  pub none_opened : t.opened ≡ 0

-- closed nodes refute the present limits, and each split has a cover for the opening limits, unless it is bare
abbrev pub StandsAtPath : Mill → Search → Type 0
StandsAtPath m t = Stands m (HoldsCover m (opening_of t)) (limits_of t) t.path t.nodes

pub record IsRunning (m : Mill) (t : Search) : Type 0 where
  pub search : IsSearch m t
  pub running : t.phase ≡ Running
  pub stands : StandsAtPath m t
  pub opened : t.opened ≡ length t.nodes + 1 + waiting t.path

-- a run may begin or go on
abbrev pub IsReady : Mill → Search → Type 0
IsReady m t = IsNew m t ⊎ IsRunning m t

-- a run has ended with the least loss or no plan: the nodes are a tree for the present limits
pub record IsFinished (m : Mill) (t : Search) : Type 0 where
  pub limits : HasLimitsBelow t
  pub finished : t.phase ≡ Done
  pub whole : IsWhole m (HoldsCover m (opening_of t)) (limits_of t) t.nodes
  pub opened : t.opened ≡ length t.nodes

-- the next split would give more nodes than the limit
pub record IsRefused (m : Mill) (limit : ℕ) (t : Search) : Type 0 where
  pub search : IsSearch m t
  pub bare : Bool
  pub refused : t.phase ≡ Refused bare
  pub stands : StandsAtPath m t
  pub opened : t.opened ≡ length t.nodes + 1 + waiting t.path
  pub within : t.opened ≤ limit
  pub full : limit < t.opened + 2
  -- the question of the refused split
  pub ask : Ask
  pub asks : IsOpenAsk m t.path ask
  -- no prices refute the present limits there, unless the split is bare
  pub covered : bare ≡ false → HasCover m (limits_of t) t.path

-- the split that was refused is bare
abbrev pub HasBareEnd : Search → Type 0
HasBareEnd t = t.phase ≡ Refused true

-- ---- how a run ends

-- no legal plan within the count limit has a smaller loss
pub record IsLeast (m : Mill) (count : Option ℤ) (p : Plan) : Type 0 where
  pub start : IsStart m count p
  pub least : (q : Plan) → IsLegal m q → AtMost (Some (pos (sums_of m q).count)) count → (sums_of m p).loss ≤ (sums_of m q).loss

-- the best plan that was handed in, where none is better
abbrev pub KeepsBest : Mill → Option ℤ → Option Plan → Plan → Type 0
KeepsBest m count best p = (b : Plan) → best ≡ Some b → IsLeast m count b → p ≡ b

abbrev pub HasNoPlan : Mill → Option ℤ → Type 0
HasNoPlan m count = (p : Plan) → IsLegal m p → AtMost (Some (pos (sums_of m p).count)) count → ⊥

pub record EndsLeast (m : Mill) (old new : Search) (p : Plan) : Type 0 where
  pub least : IsLeast m old.count p
  pub keeps : KeepsBest m old.count old.best p
  pub tree : IsFinished m new
  pub loss : new.loss ≡ loss_below m p

pub record EndsNoPlan (m : Mill) (old new : Search) : Type 0 where
  pub none : HasNoPlan m old.count
  pub tree : IsFinished m new
  pub loss : new.loss ≡ None

-- what stays, and that the best plan is replaced by better ones alone
pub record IsLater (m : Mill) (old new : Search) : Type 0 where
  pub count : new.count ≡ old.count
  pub opening : new.opening ≡ old.opening
  pub loss : AtMost new.loss old.loss
  pub best : (new.best ≡ old.best) ⊎ IsSomeAnd new.best (λ p. AtMost (Some (pos (sums_of m p).loss)) old.loss)

-- the limit that was passed is below the most nodes that any tree has
pub record EndsBudget (m : Mill) (limit : ℕ) (old new : Search) : Type 0 where
  pub tree : IsRefused m limit new
  pub later : IsLater m old new
  pub below : limit + 2 ≤ most_nodes m

abbrev pub IsEnded : Mill → ℕ → Search → Search → Ended → Type 0
IsEnded m limit old new (Least p) = EndsLeast m old new p
IsEnded m limit old new NoPlan = EndsNoPlan m old new
IsEnded m limit old new Budget = EndsBudget m limit old new

-- it isn't Budget
abbrev pub IsAnswer : Ended → Type 0
IsAnswer (Least p) = Unit {0}
IsAnswer NoPlan = Unit {0}
IsAnswer Budget = ⊥

-- the question stays
pub record IsSameQuestion (old new : Search) : Type 0 where
  pub count : new.count ≡ old.count
  pub opening : new.opening ≡ old.opening

-- the counts rose by the nodes and the bare splits that the tree gained
abbrev pub AreRaisedBy : Counts → Counts → Search → Search → Type 0
AreRaisedBy n k old new = AreRaised n k old.opened new.opened (bare_count old.nodes) (bare_count new.nodes)

-- ---- the unfinished tree

abbrev pub outline_of : Search → List (Option Ask)
outline_of t = map ask_of t.nodes ++ replicate (t.opened - length t.nodes) None
