-- Branching decisions, and which plans and columns agree with them.
use Rattle.std.specs.Prelude.{◌≡◌, ℕ, ◌<◌, Bool, true, false, if◌then◌else◌, not, ◌&&◌, eqb, List, length, slice_index, slice_index_or}
use Rattle.std.specs.List.{list_all, AllByRecursion}
use Rattle.mill_model.specs.declared.kind.Kind.TheVariants.{New}
use Rattle.mill_model.specs.declared.ask.Ask.{Ask}
use Rattle.mill_model.specs.declared.ask.Ask.TheVariants.{Pair, Put}
use Rattle.mill_model.specs.Mill.{Mill}
use Rattle.mill_model.specs.Plans.{Plan}
use Rattle.mill_model.specs.Columns.{Column, has, is_old}

-- a question of a mill with so many orders and surplus slabs
abbrev pub IsAskAmong : ℕ → ℕ → Ask → Type 0
IsAskAmong orders slabs (Pair i j) = (i < j) × (j < orders)
IsAskAmong orders slabs (Put o s) = (o < orders) × (s < slabs)

-- a question of this mill
abbrev pub IsAsk : Mill → Ask → Type 0
IsAsk m ask = IsAskAmong (length m.orders) (length m.yard) ask

-- a question with its answer
abbrev pub Decision : Type 0
Decision = Ask × Bool

abbrev pub AreAsks : Mill → List Decision → Type 0
AreAsks m decisions = AllByRecursion (λ (d : Decision). IsAsk m d.0) decisions

-- what a plan answers: are the two orders on one slab, is the slab of the order surplus slab s
abbrev pub answer_of : Plan → Ask → Bool
answer_of p (Pair i j) = eqb (slice_index p.place i) (slice_index p.place j)
answer_of p (Put o s) = is_old s (slice_index_or p.kinds (slice_index p.place o) (New 0))

abbrev pub PlanAgrees : List Decision → Plan → Type 0
PlanAgrees decisions p = AllByRecursion (λ (d : Decision). answer_of p d.0 ≡ d.1) decisions

-- two tests of a column: that it has an order, and that it has another or is the surplus slab
abbrev pub first_test : Ask → Column → Bool
first_test (Pair i j) c = has c.orders i
first_test (Put o s) c = has c.orders o

abbrev pub second_test : Ask → Column → Bool
second_test (Pair i j) c = has c.orders j
second_test (Put o s) c = is_old s c.kind

-- yes: both or neither. No: not both
abbrev pub agrees : Column → Decision → Bool
agrees c (ask, true) = (if first_test ask c then second_test ask c else not (second_test ask c))
agrees c (ask, false) = not (first_test ask c && second_test ask c)

abbrev pub column_agrees : List Decision → Column → Bool
column_agrees decisions c = list_all (agrees c) decisions
