-- What a check answers, and what it means.
use Rattle.std.specs.Prelude.{◌≡◌, ℕ, ℤ, List, [], length, Some, Ok}
use Rattle.mill_model.specs.declared.sums.Sums.{Sums}
use Rattle.mill_model.specs.Mill.{Mill}
use Rattle.mill_model.specs.Columns.{Column}
use Rattle.mill_model.specs.Decisions.{Decision}
use Rattle.cert_view.specs.declared.line.Line.{Line}
use Rattle.cert_view.specs.declared.line.Line.TheVariants as lines
use Rattle.cert_view.specs.Line.{next_line}
use Rattle.mill_model.specs.Prices.{prices_of}
use Rattle.price_check.specs.Exceeding.{IsExceeding}
use Rattle.cert_rules.specs.States.{Wanted, State}
use Rattle.cert_rules.specs.States.State.{Begin, BetweenPoints, InPlan, InTree, InOpenTree, Ended}
use Rattle.cert_rules.specs.Turns.{after}
use Rattle.cert_rules.specs.Reading.{Reads, IsFirstBad, number_after}
use Rattle.cert_rules.specs.Verdicts.{Verdict as Said}
use Rattle.cert_rules.specs.Verdicts.Verdict.{Front, NoPlan, CutOff, Bad}
use Rattle.cert_check.specs.declared.line_why.LineWhy.{LineWhy}
use Rattle.cert_check.specs.declared.line_why.LineWhy.TheVariants as carried
use Rattle.cert_check.specs.declared.verdict.Verdict.{Verdict}
use Rattle.cert_check.specs.declared.verdict.Verdict.TheVariants as verdicts
use Rattle.cert_check.specs.Whys.{why_of}

-- the verdict, with the why alone
abbrev pub said_of : Verdict → Said
said_of (verdicts.Front points) = Front points
said_of verdicts.NoPlan = NoPlan
said_of (verdicts.Cut points) = CutOff points
said_of (verdicts.No line broken) = Bad line (why_of broken)

-- ---- the exceeding column of a leaf

-- the decisions above what is read next
abbrev pub path_of : State → List Decision
path_of Begin = []
path_of (BetweenPoints version points) = []
path_of (InPlan version before sums slabs) = []
path_of (InTree goal stage path) = path
path_of (InOpenTree points path) = path
path_of (Ended outcome points) = []

-- line n is a leaf, and this is a legal column that agrees with the path and exceeds its prices, on no larger new slab than it needs
pub record ExceedsAt (m : Mill) (wanted : Wanted) (bytes : List ℕ) (n : ℕ) (c : Column) : Type 0 where
  pub before : List Line
  pub rest : List ℕ
  pub numbers : List ℤ
  pub reads : Reads m wanted bytes before rest
  pub counted : n ≡ number_after (length before)
  pub leaf : next_line rest ≡ Some (Ok (lines.Leaf numbers))
  pub exceeds : IsExceeding m (path_of (after m wanted Begin before)) (prices_of (length m.orders) numbers) c

-- the column that a why carries is one that exceeds
abbrev pub CarriesExceeding : Mill → Wanted → List ℕ → ℕ → LineWhy → Type 0
CarriesExceeding m wanted bytes n (carried.Column kind orders) = ExceedsAt m wanted bytes n (record { kind = kind; orders = orders })
CarriesExceeding m wanted bytes n other = Unit {0}

-- the number of the first bad line and its why
pub record IsBadAt (m : Mill) (wanted : Wanted) (bytes : List ℕ) (n : ℕ) (broken : LineWhy) : Type 0 where
  pub first : IsFirstBad m wanted bytes n (why_of broken)
  pub column : CarriesExceeding m wanted bytes n broken

-- ---- parts of a verdict

abbrev pub OnFront : Verdict → (List Sums → Type 0) → Type 0
OnFront (verdicts.Front points) P = P points
OnFront other P = Unit {0}

abbrev pub OnNoPlan : Verdict → Type 0 → Type 0
OnNoPlan verdicts.NoPlan P = P
OnNoPlan other P = Unit {0}

abbrev pub OnCut : Verdict → (List Sums → Type 0) → Type 0
OnCut (verdicts.Cut points) P = P points
OnCut other P = Unit {0}

abbrev pub OnNo : Verdict → (ℕ → LineWhy → Type 0) → Type 0
OnNo (verdicts.No line broken) P = P line broken
OnNo other P = Unit {0}
