-- The forms of lines, and what a question's line does to the path.
use Rattle.std.specs.Prelude.{◌≡◌, ℤ, Bool, true, false, List, [], ◌∷◌, length, None}
use Rattle.mill_model.specs.declared.ask.Ask.{Ask}
use Rattle.mill_model.specs.declared.version.Version.{Version}
use Rattle.mill_model.specs.declared.version.Version.TheVariants.{One, Two}
use Rattle.mill_model.specs.Mill.{Mill}
use Rattle.mill_model.specs.Decisions.{Decision}
use Rattle.cert_view.specs.declared.line.Line.{Line}
use Rattle.cert_view.specs.declared.line.Line.TheVariants as lines
use Rattle.cert_rules.specs.declared.why.Why.{Why}
use Rattle.price_check.specs.Path.{Path}
use Rattle.cert_rules.specs.Questions.{NamesPair, NamesPut, pair_of, put_of, ask_rules}
use Rattle.cert_rules.specs.Rules.{AllKept, FirstBroken, Rule}
use Rattle.cert_rules.specs.States.{State}
use Rattle.cert_rules.specs.Turns.{rules_of, next_of, turn_to_ask}

-- a line that can begin a tree
abbrev pub can_begin : Version → Line → Bool
can_begin One (lines.Leaf ns) = true
can_begin One (lines.Pair ns) = true
can_begin One (lines.Put ns) = true
can_begin One line = false
can_begin Two (lines.Leaf ns) = true
can_begin Two lines.Bare = true
can_begin Two lines.Plain = true
can_begin Two (lines.Spread ns) = true
can_begin Two line = false

-- a question's line
abbrev pub is_ask : Line → Bool
is_ask (lines.Pair ns) = true
is_ask (lines.Put ns) = true
is_ask line = false

-- not a slab's line
abbrev pub IsNoSlab : Line → Type 0
IsNoSlab (lines.New ns) = ⊥
IsNoSlab (lines.Old ns) = ⊥
IsNoSlab line = Unit {0}

-- not a leaf's line
abbrev pub IsNoLeaf : Line → Type 0
IsNoLeaf (lines.Leaf ns) = ⊥
IsNoLeaf line = Unit {0}

-- not a share's line
abbrev pub IsNoShare : Line → Type 0
IsNoShare (lines.CNew ns) = ⊥
IsNoShare (lines.COld ns) = ⊥
IsNoShare line = Unit {0}

-- not the line `open`
abbrev pub IsNoOpen : Line → Type 0
IsNoOpen lines.Open = ⊥
IsNoOpen line = Unit {0}

-- the rules of a question that a line's numbers name, of two orders or of an order and a surplus slab
abbrev pub pair_rules : Mill → List Decision → List ℤ → List Rule
pair_rules m path ns = ask_rules (NamesPair (length m.orders) ns) path (pair_of ns)

abbrev pub put_rules : Mill → List Decision → List ℤ → List Rule
put_rules m path ns = ask_rules (NamesPut (length m.orders) (length m.yard) ns) path (put_of ns)

-- the path goes down to the answer yes of a question
abbrev pub put_yes : Path → Ask → Path
put_yes path ask = record path { decisions = (ask, true) ∷ path.decisions; bad = None }

-- what a question's line does to the path
pub record IsAsked (m : Mill) (path next : List Decision) (line : Line) : Type 0 where
  pub kept : (at : List Decision → State) → AllKept (rules_of (turn_to_ask m at [] path line))
  pub next_is : (at : List Decision → State) (state : State) → next_of state (turn_to_ask m at [] path line) ≡ at next

abbrev pub IsNotAsked : Mill → List Decision → Line → Why → Type 0
IsNotAsked m path line broken = (at : List Decision → State) → FirstBroken (rules_of (turn_to_ask m at [] path line)) broken
