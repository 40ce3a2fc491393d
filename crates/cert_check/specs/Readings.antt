-- For which bytes a reader stands, and how much more it can take.
use Rattle.std.specs.Prelude.{◌≡◌, ◌⊎◌, ℕ, ◌+◌, ◌-◌, ◌*◌, ◌≤◌, ℤ, unsigned_abs, Bool, true, false, cond, List, [], ◌++◌, length, reverse, slice_index, slice_index_or, Option, Some, None, is_some, Result, Ok, Err}
use Rattle.mill_model.specs.Mill.{Mill}
use Rattle.cert_rules.specs.States.{Wanted, State}
use Rattle.cert_rules.specs.States.Wanted.{All, Cuts}
use Rattle.cert_rules.specs.Rules.{AllKept, FirstBroken}
use Rattle.cert_rules.specs.Turns.{line_rules, line_next}
use Rattle.cert_view.specs.declared.line.Line.{Line}
use Rattle.cert_view.specs.Line.{next_line, most_line}
use Rattle.cert_view.specs.Held.{IsPart, IsWhole}
use Rattle.cert_rules.specs.Reading.{IsBadLine}
use Rattle.cert_view.specs.declared.line.Line.TheVariants as lines
use Rattle.mill_model.specs.Prices.{prices_of}
use Rattle.price_check.specs.Exceeding.{IsExceeding}
use Rattle.cert_check.specs.declared.line_why.LineWhy.{LineWhy}
use Rattle.cert_check.specs.declared.line_why.LineWhy.TheVariants as carried
use Rattle.cert_rules.specs.States.Owner.{OfPoint, OfRest}
use Rattle.cert_rules.specs.Room.{sum_below, asks_left, below_node, branch_lines, tree_lines, node_lines, rest_lines, owner_lines}
use Rattle.cert_rules.specs.declared.why.Why.{Why}
use Rattle.cert_rules.specs.declared.why.Why.TheVariants as why
use Rattle.mill_model.specs.Columns.{Column}
use Rattle.cert_check.specs.declared.wanted.Wanted.{Wanted as Asked}
use Rattle.cert_check.specs.declared.wanted.Wanted.TheVariants as asked
use Rattle.cert_check.specs.declared.phase.Phase.{Phase}
use Rattle.cert_check.specs.declared.phase.Phase.TheVariants as phases
use Rattle.cert_rules.specs.Stands.{IsRunning, HasFailed}
use Rattle.cert_check.specs.declared.failure.Failure.{Failure}
use Rattle.cert_check.specs.Whys.{why_of}
use Rattle.cert_check.specs.Verdicts.{CarriesExceeding, path_of}
use Rattle.cert_check.specs.Kept.{Kept, Keeps}

pub record Reading : Type 0 where
  pub mill : Mill
  pub wanted : Wanted
  pub kept : Kept
  -- the number of whole lines, and the bytes since then
  pub count : ℕ
  pub held : List ℕ
  -- the first bad line
  pub failed : Option Failure

-- the state that the whole lines reached
pub record Runs (wanted : Wanted) (r : Reading) (bytes : List ℕ) : Type 0 where
  pub state : State
  pub keeps : Keeps r.mill r.kept state
  pub running : IsRunning r.mill wanted bytes state r.count r.held

pub record Fails (wanted : Wanted) (m : Mill) (failure : Failure) (bytes : List ℕ) : Type 0 where
  pub failed : HasFailed m wanted bytes failure.line (why_of failure.why)
  pub column : CarriesExceeding m wanted bytes failure.line failure.why

-- by what it keeps, a reader stands for these bytes
abbrev pub StandsBy : Wanted → Reading → Option Failure → List ℕ → Type 0
StandsBy wanted r None bytes = Runs wanted r bytes
StandsBy wanted r (Some failure) bytes = Fails wanted r.mill failure bytes

abbrev pub Stands : Reading → List ℕ → Type 0
Stands r bytes = StandsBy r.wanted r r.failed bytes

-- for whatever bytes the old reader stood, the new one stands for them and these
abbrev pub StandsOn : Reading → Reading → List ℕ → Type 0
StandsOn old new fed = (bytes : List ℕ) → Stands old bytes → Stands new (bytes ++ fed)

-- ---- room

-- at most so many good lines can follow
abbrev pub tree_room : Mill → Kept → Bool → ℕ
tree_room m k true = below_node m (asks_left m k.path) + (branch_lines m k.path + owner_lines m OfRest (reverse k.points))
tree_room m k false = below_node m (asks_left m k.path) + (branch_lines m k.path + owner_lines m OfPoint (reverse k.points))

abbrev pub phase_room : Mill → Kept → Phase → ℕ
phase_room m k phases.Begin = 1 + rest_lines m []
phase_room m k phases.Between = rest_lines m (reverse k.points)
phase_room m k phases.Plan = sum_below (length m.orders) (λ o. cond (slice_index_or k.draft.placed o false) 0 1) + (tree_lines m [] + rest_lines m (reverse k.points))
phase_room m k (phases.Tree rest) = node_lines m + tree_room m k rest
phase_room m k (phases.Question rest) = 1 + tree_room m k rest
phase_room m k (phases.Spread rest) = 1 + (length m.orders * unsigned_abs k.tally.d - sum_below (length m.orders) (λ o. slice_index k.tally.covered o)) + tree_room m k rest
phase_room m k phases.Open = tree_lines m k.path + branch_lines m k.path
phase_room m k phases.Proved = 0
phase_room m k phases.Unfinished = 0

-- at most so many bytes can still be taken before a line is bad
abbrev pub room_by : Reading → Option Failure → ℕ
room_by r None = most_line * phase_room r.mill r.kept r.kept.phase - length r.held
room_by r (Some failure) = 0

abbrev pub room : Reading → ℕ
room r = room_by r r.failed

-- the reader has failed, or its room has fallen by so much at least
abbrev pub HasLessRoom : Reading → Reading → ℕ → Type 0
HasLessRoom old new fed = (is_some new.failed ≡ true) ⊎ (room new + fed ≤ room old)

-- for whatever bytes the old reader stood, the new one has less room
abbrev pub RoomFalls : Reading → Reading → ℕ → Type 0
RoomFalls old new fed = (bytes : List ℕ) → Stands old bytes → HasLessRoom old new fed

-- some line of the bytes is bad, whatever follows
abbrev pub HasBadLine : Wanted → Mill → List ℕ → Type 0
HasBadLine wanted m bytes = (n : ℕ) × (broken : Why) × HasFailed m wanted bytes n broken

-- ---- one line

-- which certificates a reader takes as good
abbrev pub wanted_of : Asked → Wanted
wanted_of asked.All = All
wanted_of asked.Cuts = Cuts

-- what the machine in a reader is
pub record Machine : Type 0 where
  pub mill : Mill
  pub wanted : Wanted
  pub kept : Kept
  -- the exceeding column of the leaf that was tested last
  pub bad : Option Column

-- for each state that is kept, the line keeps its rules, and the state after it is kept
abbrev pub GoesOn : Machine → Machine → Line → Type 0
GoesOn old new line = (state : State) → Keeps old.mill old.kept state → AllKept (line_rules old.mill old.wanted state line) × Keeps old.mill new.kept (line_next old.mill old.wanted state line)

-- the column of a why exceeds the prices of the line, which is a leaf
abbrev pub CarriesFor : Mill → State → Line → LineWhy → Type 0
CarriesFor m state line (carried.Column kind orders) = (numbers : List ℤ) × (line ≡ lines.Leaf numbers) × IsExceeding m (path_of state) (prices_of (length m.orders) numbers) (record { kind = kind; orders = orders })
CarriesFor m state line other = Unit {0}

-- for each state that is kept, this is the first rule that the line breaks
abbrev pub IsRefused : Machine → Line → Why → Type 0
IsRefused old line broken = (state : State) → Keeps old.mill old.kept state → FirstBroken (line_rules old.mill old.wanted state line) broken

-- the line is a leaf, and the machine has a column that exceeds its prices
pub record HasFound (old new : Machine) (line : Line) : Type 0 where
  pub numbers : List ℤ
  pub leaf : line ≡ lines.Leaf numbers
  pub column : Column
  pub bad : new.bad ≡ Some column
  pub exceeds : IsExceeding old.mill old.kept.path (prices_of (length old.mill.orders) numbers) column

-- a line that is bad for a column that exceeds: the machine has the column
abbrev pub FindsColumn : Machine → Machine → Line → Result (Unit {0}) Why → Type 0
FindsColumn old new line result = result ≡ Err why.Column → HasFound old new line

-- what has become of a line
abbrev pub IsTurn : Machine → Machine → Line → Result (Unit {0}) Why → Type 0
IsTurn old new line (Ok done) = GoesOn old new line
IsTurn old new line (Err broken) = IsRefused old line broken

-- the mill stays, and what is wanted
pub record IsSameReader (old new : Machine) : Type 0 where
  pub mill : new.mill ≡ old.mill
  pub wanted : new.wanted ≡ old.wanted

-- a held line that is bad: it can't be read, or it breaks a rule
pub record IsBadHeld (old : Machine) (held : List ℕ) (broken : LineWhy) : Type 0 where
  pub whole : IsWhole held
  pub bad : (state : State) → Keeps old.mill old.kept state → IsBadLine old.mill old.wanted state (next_line held) (why_of broken)
  pub column : (state : State) (line : Line) → Keeps old.mill old.kept state → next_line held ≡ Some (Ok line) → CarriesFor old.mill state line broken

-- a held line that keeps its rules
pub record IsGoodHeld (old new : Machine) (held : List ℕ) : Type 0 where
  pub whole : IsWhole held
  pub line : Line
  pub read : next_line held ≡ Some (Ok line)
  pub goes_on : GoesOn old new line

-- a held line that is bad, with the rule that it breaks
pub record IsRefusedHeld (old new : Machine) (held : List ℕ) (broken : Why) : Type 0 where
  pub whole : IsWhole held
  pub bad : (state : State) → Keeps old.mill old.kept state → IsBadLine old.mill old.wanted state (next_line held) broken
  pub found : broken ≡ why.Column → (line : Line) × (next_line held ≡ Some (Ok line)) × HasFound old new line

-- what has become of a held line
abbrev pub IsStep : Machine → Machine → List ℕ → Option (Result (Unit {0}) Why) → Type 0
IsStep old new held None = IsPart held × (new ≡ old)
IsStep old new held (Some (Ok done)) = IsGoodHeld old new held
IsStep old new held (Some (Err broken)) = IsRefusedHeld old new held broken
