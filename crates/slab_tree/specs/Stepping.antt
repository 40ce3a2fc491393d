-- What each step of a search does to its tree.
use Rattle.std.specs.Prelude.{◌≡◌, ℕ, ℤ, pos, negsuc, suc, ◌+◌, ◌-◌, ◌^◌, ◌<◌, ◌≤◌, ◌⊎◌, Bool, true, false, List, [], ◌∷◌, ◌++◌, length, Option, Some, None, IsSomeAnd}
use Rattle.mill_model.specs.declared.ask.Ask.{Ask}
use Rattle.mill_model.specs.declared.mark.Mark.{Mark}
use Rattle.mill_model.specs.Mill.{Mill}
use Rattle.mill_model.specs.Plans.{Plan, sums_of}
use Rattle.mill_model.specs.Limits.{AtMost}
use Rattle.mill_model.specs.Decisions.{Decision}
use Rattle.mill_model.specs.Paths.{next_branch}
use Rattle.mill_model.specs.Plain.{IsPlainlyRefuted}
use Rattle.mill_model.specs.Prices.{Prices}
use Rattle.slab_columns.specs.Pool.{Pool}
use Rattle.slab_decide.specs.Decided.{Decisions}
use Rattle.slab_tree.specs.Counts.{Counts, AreRaised, raised_by}
use Rattle.slab_tree.specs.declared.node.Node.TheVariants.{Closed, Branched}
use Rattle.slab_tree.specs.declared.tree.Phase.{Phase}
use Rattle.slab_tree.specs.declared.tree.Phase.TheVariants.{New, Running, Done, Refused}
use Rattle.slab_tree.specs.declared.tree.Ended.{Ended}
use Rattle.slab_tree.specs.declared.tree.Ended.TheVariants.{Least, NoPlan, Budget}
use Rattle.slab_tree.specs.declared.workplace.Workplace.{Workplace}
use Rattle.slab_tree.specs.Marking.{is_bare}
use Rattle.slab_tree.specs.Searches.{Search, IsLater, IsRunning, IsSearch, IsFinished, IsRefused, AreRaisedBy, bare_count, limits_of}

-- ---- the moves

-- the next node is closed
abbrev pub after_leaf : Option (List Decision) → Search → Search → Type 0
after_leaf None old new = new ≡ record old { path = new.path; phase = Done }
after_leaf (Some branch) old new = new ≡ record old { path = branch }

abbrev pub IsClosed : Prices → Search → Search → Type 0
IsClosed p old new = after_leaf (next_branch old.path) (record old { nodes = old.nodes ++ Closed p ∷ [] }) new

abbrev pub IsBranched : Ask → Mark → Search → Search → Type 0
IsBranched ask mark old new = new ≡ record old { nodes = old.nodes ++ Branched ask mark ∷ []; path = (ask, true) ∷ old.path }

-- the split is made, or refused exactly where it would give more nodes than the limit
abbrev pub IsSplitUnder : Ask → Mark → ℕ → Search → Search → Bool → Type 0
IsSplitUnder ask mark limit old new true = (old.opened + 2 ≤ limit) × IsBranched ask mark (record old { opened = old.opened + 2 }) new
IsSplitUnder ask mark limit old new false = (limit < old.opened + 2) × (new ≡ record old { phase = Refused (is_bare mark) })

-- the root takes the first node
abbrev pub IsStarted : Phase → Search → Search → Counts → Counts → Type 0
IsStarted New old new n k = (new ≡ record old { phase = Running; opened = 1 }) × (k ≡ record n { opened = raised_by n.opened 1 })
IsStarted Running old new n k = (new ≡ old) × (k ≡ n)
IsStarted Done old new n k = (new ≡ old) × (k ≡ n)
IsStarted (Refused bare) old new n k = (new ≡ old) × (k ≡ n)

-- the last answer, by the phase and the best plan
abbrev pub IsFinish : Phase → Option Plan → Search → Search → Ended → Type 0
IsFinish New best old new e = Unit {0}
IsFinish Running best old new e = Unit {0}
IsFinish (Refused bare) best old new e = (e ≡ Budget) × (new ≡ old)
IsFinish Done None old new e = (e ≡ NoPlan) × (new ≡ old)
IsFinish Done (Some p) old new e = (e ≡ Least p) × (new ≡ record old { best = None })

-- what a walk through an old tree stands on: the sizes and the pool are those of the mill, and the decisions those above the next node
pub record IsWorkplace (m : Mill) (listed : List ℕ) (columns : Pool) (decisions : Decisions) (path : List Decision) : Type 0 where
  pub sizes : listed ≡ m.sizes
  pub pool : columns.mill ≡ m
  pub orders : decisions.orders ≡ length m.orders
  pub yard : decisions.yard ≡ length m.yard
  pub list : decisions.list ≡ path

-- what a step stands on: the pool is that of the mill, and the decisions are those above the next node
pub record IsPlaceAt (place : Workplace) (columns : Pool) (path : List Decision) : Type 0 where
  pub pool : columns.mill ≡ place.mill.now
  pub list : place.decisions.list ≡ path

-- ---- the measure

-- how far the loss limit can fall
abbrev pub fall_room : Option ℤ → ℕ
fall_room None = 2 ^ 63
fall_room (Some (pos n)) = suc n
fall_room (Some (negsuc n)) = 0

-- falls with each step
abbrev pub rank : ℕ → Search → ℕ
rank limit t = fall_room t.loss + (limit - length t.nodes)

-- ---- what a step keeps

-- a better plan may have been taken, and nothing else was
pub record MayHaveLowered (m : Mill) (old new : Search) : Type 0 where
  pub running : IsRunning m new
  pub later : IsLater m old new
  pub nodes : new.nodes ≡ old.nodes
  pub opened : new.opened ≡ old.opened
  pub plain : IsPlainlyRefuted m (limits_of old) → new ≡ old

pub record GoesOnFrom (m : Mill) (limit : ℕ) (old new : Search) : Type 0 where
  pub running : IsRunning m new
  pub room : new.opened ≤ limit
  pub falls : rank limit new < rank limit old

-- the tree is whole, and its best plan not handed out yet
pub record IsComplete (m : Mill) (limit : ℕ) (t : Search) : Type 0 where
  pub search : IsSearch m t
  pub tree : IsFinished m t
  pub within : t.opened ≤ limit

abbrev pub IsOver : Mill → ℕ → Search → Type 0
IsOver m limit t = IsComplete m limit t ⊎ IsRefused m limit t

abbrev pub IsStepped : Mill → ℕ → Search → Search → Bool → Type 0
IsStepped m limit old new true = GoesOnFrom m limit old new × IsLater m old new
IsStepped m limit old new false = IsOver m limit new × IsLater m old new

-- the one node is closed
pub record IsClosedAtOnce (old new : Search) (on : Bool) : Type 0 where
  pub over : on ≡ false
  pub finished : new.phase ≡ Done
  pub opened : new.opened ≡ old.opened

-- a step's answer, by the next branch
abbrev pub IsSteppedBy : Option (List Decision) → Mill → ℕ → Search → Search → Type 0
IsSteppedBy None m limit old new = IsComplete m limit new × IsLater m old new
IsSteppedBy (Some path) m limit old new = GoesOnFrom m limit old new × IsLater m old new

-- the root stands, and all else is as it was
pub record HasRoot (m : Mill) (old new : Search) (n k : Counts) : Type 0 where
  pub running : IsRunning m new
  pub room : new.opened ≤ k.limit
  pub limit : k.limit ≡ n.limit
  pub count : new.count ≡ old.count
  pub opening : new.opening ≡ old.opening
  pub best : new.best ≡ old.best
  pub loss : new.loss ≡ old.loss
  pub nodes : new.nodes ≡ old.nodes
  pub counts : AreRaised n k old.opened new.opened (bare_count old.nodes) (bare_count new.nodes)

-- the root stands, and a better plan may have been taken
pub record HasBegun (m : Mill) (old new : Search) (n k : Counts) : Type 0 where
  pub running : IsRunning m new
  pub room : new.opened ≤ n.limit
  pub later : IsLater m old new
  pub nodes : new.nodes ≡ old.nodes
  pub counts : AreRaisedBy n k old new
  pub plain : IsPlainlyRefuted m (limits_of old) → limits_of new ≡ limits_of old

-- the limits are those of the beginning, and no node is decided
pub record IsAtRoot (old new : Search) : Type 0 where
  pub limits : limits_of new ≡ limits_of old
  pub none : new.nodes ≡ []
