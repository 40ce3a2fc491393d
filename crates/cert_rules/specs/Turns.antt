-- One step over a line: for each state what can stand there, the rules of the line in their order, and the state after it.
use Rattle.std.specs.Prelude.{ℤ, true, unsigned_abs, List, [], ◌∷◌, ◌++◌, length}
use Rattle.mill_model.specs.declared.sums.Sums.{Sums}
use Rattle.mill_model.specs.declared.version.Version.{Version}
use Rattle.mill_model.specs.declared.version.Version.TheVariants.{One, Two}
use Rattle.mill_model.specs.Mill.{Mill}
use Rattle.mill_model.specs.Columns.{Column}
use Rattle.mill_model.specs.Decisions.{Decision}
use Rattle.mill_model.specs.Paths.{next_branch}
use Rattle.mill_model.specs.Shares.{Share}
use Rattle.cert_view.specs.declared.line.Line.{Line}
use Rattle.cert_view.specs.declared.line.Line.TheVariants as lines
use Rattle.cert_rules.specs.declared.why.Why.TheVariants as why
use Rattle.cert_rules.specs.Rules.{Rule, rule, AllKept}
use Rattle.cert_rules.specs.Numbers.{number_at}
use Rattle.cert_rules.specs.States.{Wanted, Goal, Stage, State, latest, tree_limits, after_tree, branch_or}
use Rattle.cert_rules.specs.States.Wanted.{All, Cuts}
use Rattle.cert_rules.specs.States.Owner.{OfPoint, OfRest}
use Rattle.cert_rules.specs.States.Stage.{Begins, Marked, InSpread}
use Rattle.cert_rules.specs.States.Outcome.{Unfinished}
use Rattle.cert_rules.specs.States.State.{Begin, BetweenPoints, InPlan, InTree, InOpenTree, Ended}
use Rattle.cert_rules.specs.Questions.{NamesPair, NamesPut, pair_of, put_of, ask_rules}
use Rattle.cert_rules.specs.Leaves.{leaf_rules}
use Rattle.cert_rules.specs.Slabs.{sums_of_line, point_rules, new_slab, new_rules, old_slab, old_rules, plan_rules}
use Rattle.cert_rules.specs.Spreads.{spread_rules, share_of_new, new_share_rules, share_of_old, old_share_rules, cover_rules}

pub data Turn : Type 1 where
  -- a line of this form can't stand here
  Refused : Turn
  -- the rules of the line in their order, and the state after it
  Taken : List Rule → State → Turn

abbrev pub rules_of : Turn → List Rule
rules_of Refused = rule why.Expect ⊥ ∷ []
rules_of (Taken rules next) = rules

abbrev pub next_of : State → Turn → State
next_of state Refused = state
next_of state (Taken rules next) = next

-- ---- in a tree

-- a question, with the rules that come before its own
abbrev pub turn_to_ask : Mill → (List Decision → State) → List Rule → List Decision → Line → Turn
turn_to_ask m at before path (lines.Pair ns) = Taken (before ++ ask_rules (NamesPair (length m.orders) ns) path (pair_of ns)) (at ((pair_of ns, true) ∷ path))
turn_to_ask m at before path (lines.Put ns) = Taken (before ++ ask_rules (NamesPut (length m.orders) (length m.yard) ns) path (put_of ns)) (at ((put_of ns, true) ∷ path))
turn_to_ask m at before path line = Refused

-- a leaf, after which the next branch begins
abbrev pub turn_to_leaf : Mill → Goal → List Decision → List ℤ → Turn
turn_to_leaf m goal path ns = Taken (leaf_rules m (tree_limits goal) path ns) (branch_or (after_tree goal) (InTree goal Begins) (next_branch path))

-- where a tree begins in version 1
abbrev pub turn_unmarked : Mill → Goal → List Decision → Line → Turn
turn_unmarked m goal path (lines.Leaf ns) = turn_to_leaf m goal path ns
turn_unmarked m goal path line = turn_to_ask m (InTree goal Begins) [] path line

-- and in version 2
abbrev pub turn_marked : Mill → Goal → List Decision → Line → Turn
turn_marked m goal path (lines.Leaf ns) = turn_to_leaf m goal path ns
turn_marked m goal path lines.Bare = Taken [] (InTree goal Marked path)
turn_marked m goal path lines.Plain = Taken [] (InTree goal Marked path)
turn_marked m goal path (lines.Spread ns) = Taken (spread_rules ns) (InTree goal (InSpread (number_at ns 0) []) path)
turn_marked m goal path line = Refused

abbrev pub turn_at_start : Mill → Goal → Version → List Decision → Line → Turn
turn_at_start m goal One path line = turn_unmarked m goal path line
turn_at_start m goal Two path line = turn_marked m goal path line

-- after a spread's shares, of which there is one at least
abbrev pub turn_after_shares : Mill → Goal → ℤ → List Share → List Decision → Line → Turn
turn_after_shares m goal d [] path line = Refused
turn_after_shares m goal d (share ∷ shares) path line = turn_to_ask m (InTree goal Begins) (cover_rules m (tree_limits goal) (unsigned_abs d) (share ∷ shares)) path line

abbrev pub turn_in_spread : Mill → Goal → ℤ → List Share → List Decision → Line → Turn
turn_in_spread m goal d shares path (lines.CNew ns) = Taken (new_share_rules m path (unsigned_abs d) shares ns) (InTree goal (InSpread d (shares ++ share_of_new ns ∷ [])) path)
turn_in_spread m goal d shares path (lines.COld ns) = Taken (old_share_rules m path (unsigned_abs d) shares ns) (InTree goal (InSpread d (shares ++ share_of_old ns ∷ [])) path)
turn_in_spread m goal d shares path line = turn_after_shares m goal d shares path line

abbrev pub turn_in_tree : Mill → Goal → Stage → List Decision → Line → Turn
turn_in_tree m goal Begins path line = turn_at_start m goal goal.version path line
turn_in_tree m goal Marked path line = turn_to_ask m (InTree goal Begins) [] path line
turn_in_tree m goal (InSpread d shares) path line = turn_in_spread m goal d shares path line

abbrev pub turn_in_open_tree : Mill → List Sums → List Decision → Line → Turn
turn_in_open_tree m points path lines.Open = Taken [] (branch_or (Ended Unfinished points) (InOpenTree points) (next_branch path))
turn_in_open_tree m points path line = turn_to_ask m (InOpenTree points) [] path line

-- ---- in a plan

-- a line that begins the tree ends the plan
abbrev pub with_rules : List Rule → Turn → Turn
with_rules before Refused = Refused
with_rules before (Taken rules next) = Taken (before ++ rules) next

abbrev pub turn_in_plan : Mill → Version → List Sums → Sums → List Column → Line → Turn
turn_in_plan m version before sums slabs (lines.New ns) = Taken (new_rules m slabs ns) (InPlan version before sums (slabs ++ new_slab ns ∷ []))
turn_in_plan m version before sums slabs (lines.Old ns) = Taken (old_rules m slabs ns) (InPlan version before sums (slabs ++ old_slab ns ∷ []))
turn_in_plan m version before sums slabs line = with_rules (plan_rules m sums slabs) (turn_at_start m (record { version = version; owner = OfPoint; points = sums ∷ before }) version [] line)

-- ---- between points

abbrev pub turn_to_rest : Wanted → Version → List Sums → Turn
turn_to_rest All version points = Taken [] (InTree (record { version = version; owner = OfRest; points = points }) Begins [])
turn_to_rest Cuts version points = Refused

abbrev pub turn_between : Wanted → Version → List Sums → Line → Turn
turn_between wanted version points (lines.Point ns) = Taken (point_rules (latest points) ns) (InPlan version points (sums_of_line ns) [])
turn_between wanted version points lines.Done = turn_to_rest wanted version points
turn_between wanted version points lines.Cut = Taken [] (InOpenTree points [])
turn_between wanted version points line = Refused

abbrev pub turn_at_begin : Line → Turn
turn_at_begin lines.Header = Taken [] (BetweenPoints One [])
turn_at_begin lines.Header2 = Taken [] (BetweenPoints Two [])
turn_at_begin line = Refused

-- ---- all of them

abbrev pub turn : Mill → Wanted → State → Line → Turn
turn m wanted Begin line = turn_at_begin line
turn m wanted (BetweenPoints version points) line = turn_between wanted version points line
turn m wanted (InPlan version before sums slabs) line = turn_in_plan m version before sums slabs line
turn m wanted (InTree goal stage path) line = turn_in_tree m goal stage path line
turn m wanted (InOpenTree points path) line = turn_in_open_tree m points path line
turn m wanted (Ended outcome points) line = Refused

-- what a line has to keep, and the state after it
abbrev pub line_rules : Mill → Wanted → State → Line → List Rule
line_rules m wanted state line = rules_of (turn m wanted state line)

abbrev pub line_next : Mill → Wanted → State → Line → State
line_next m wanted state line = next_of state (turn m wanted state line)

-- the state after these lines
abbrev pub after : Mill → Wanted → State → List Line → State
after m wanted state [] = state
after m wanted state (line ∷ rest) = after m wanted (line_next m wanted state line) rest

-- each of these lines keeps its rules
abbrev pub AreKept : Mill → Wanted → State → List Line → Type 0
AreKept m wanted state [] = Unit {0}
AreKept m wanted state (line ∷ rest) = AllKept (line_rules m wanted state line) × AreKept m wanted (line_next m wanted state line) rest
