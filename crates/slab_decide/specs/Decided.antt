-- Decisions as contracts see them, and what follows from them.
use Rattle.std.specs.Prelude.{◌≡◌, ℕ, ◌<◌, ◌≤◌, ◌⊎◌, Bool, true, false, List, ◌∷◌, Contains, length}
use Rattle.std.specs.List.{AllByRecursion}
use Rattle.mill_model.specs.declared.ask.Ask.{Ask}
use Rattle.mill_model.specs.declared.ask.Ask.TheVariants.{Pair, Put}
use Rattle.mill_model.specs.Mill.{Mill, most_orders, most_slabs}
use Rattle.mill_model.specs.Decisions.{Decision, IsAskAmong}
use Rattle.mill_model.specs.Trees.{AreAskedOnce}
use Rattle.mill_model.specs.Assignments.{Assignment, Agrees, Follows, AreSettled}

-- decisions on so many orders and surplus slabs, the latest first
pub record Decisions : Type 0 where
  pub orders : ℕ
  pub yard : ℕ
  pub list : List Decision

-- the ask names orders and a surplus slab that there are
abbrev pub IsAskOf : Decisions → Ask → Type 0
IsAskOf v ask = IsAskAmong v.orders v.yard ask

-- what each list of decisions keeps
pub record AreDecisions (v : Decisions) : Type 0 where
  pub orders : v.orders ≤ most_orders
  pub yard : v.yard ≤ most_slabs
  pub asks : AllByRecursion (λ (d : Decision). IsAskOf v d.0) v.list
  pub once : AreAskedOnce v.list

-- some assignment agrees with all
abbrev pub AreConsistent : List Decision → Type 0
AreConsistent list = (a : Assignment) × Agrees list a

-- the decisions with one more: as they were where it stands already, else with it at the front
abbrev pub HasDecided : Decisions → Decisions → Decision → Type 0
HasDecided old new d = (Contains old.list d × (new ≡ old)) ⊎ ((Contains old.list d → ⊥) × (new ≡ record old { list = d ∷ old.list }))

-- pairs come before puts, each by its numbers
abbrev pub IsBefore : Ask → Ask → Type 0
IsBefore (Pair i j) (Pair k l) = (i < k) ⊎ ((i ≡ k) × (j < l))
IsBefore (Pair i j) (Put o s) = Unit {0}
IsBefore (Put o s) (Pair i j) = ⊥
IsBefore (Put o s) (Put p t) = (o < p) ⊎ ((o ≡ p) × (s < t))

-- some assignment that agrees answers yes, and some other no
pub record IsOpen (list : List Decision) (ask : Ask) : Type 0 where
  pub may_be_yes : AreConsistent ((ask, true) ∷ list)
  pub may_be_no : AreConsistent ((ask, false) ∷ list)

-- the first ask that doesn't follow
pub record IsFirstOpen (v : Decisions) (ask : Ask) : Type 0 where
  pub asked : IsAskOf v ask
  pub open_there : IsOpen v.list ask
  pub first : (other : Ask) → IsAskOf v other → IsBefore other ask → (b : Bool) × Follows v.list other b

-- each ask of a mill with so many orders and surplus slabs follows
abbrev pub AreSettledFor : Decisions → Type 0
AreSettledFor v = (m : Mill) → length m.orders ≡ v.orders → length m.yard ≡ v.yard → AreSettled m v.list
