-- Rules that are kept, and one line more.
use Rattle.std.proofs.Common.{◌≡◌, List, [], ◌∷◌, ◌++◌, refl, sym, subst}
use Rattle.std.specs.List.{AllByRecursion}
use Rattle.mill_model.specs.Mill.{Mill}
use Rattle.cert_view.specs.declared.line.Line.{Line}
use Rattle.cert_text.specs.Texts.{IsReadable}
use Rattle.cert_rules.specs.Rules.{Rule, AllKept}
use Rattle.cert_rules.specs.States.{Wanted, State}
use Rattle.cert_rules.specs.Turns.{Turn, rules_of, next_of, with_rules, line_rules, line_next}
use Rattle.cert_rules.specs.Turns.Turn.{Refused, Taken}
use Rattle.cert_rules.specs.Laws.{Reaches, Completes}

pub kept_split : (xs ys : List Rule) → AllKept (xs ++ ys) → AllKept xs × AllKept ys
kept_split [] ys h = (tt, h)
kept_split (x ∷ xs) ys h = let more = kept_split xs ys h.1 in ((h.0, more.0), more.1)

pub kept_join : (xs ys : List Rule) → AllKept xs → AllKept ys → AllKept (xs ++ ys)
kept_join [] ys h k = k
kept_join (x ∷ xs) ys h k = (h.0, kept_join xs ys h.1 k)

-- ---- rules before those of a turn

pub with_from : (before : List Rule) (t : Turn) → AllKept (rules_of (with_rules before t)) → AllKept before × AllKept (rules_of t) × ((s z : State) → next_of s (with_rules before t) ≡ next_of z t)
with_from before Refused h = absurd h.0
with_from before (Taken rules next) h = let parts = kept_split before rules h in (parts.0, parts.1, λ s z. refl)

pub with_back : (before : List Rule) (t : Turn) → AllKept before → AllKept (rules_of t) → AllKept (rules_of (with_rules before t)) × ((s z : State) → next_of s (with_rules before t) ≡ next_of z t)
with_back before Refused h k = absurd k.0
with_back before (Taken rules next) h k = (kept_join before rules h k, λ s z. refl)

-- ---- lines

module _ (m : Mill) (wanted : Wanted) where
  -- lines that can be read and keep their rules to the end
  abbrev pub Comes : State → List Line → Type 0
  Comes state xs = AllByRecursion IsReadable xs × Completes m wanted state xs

  pub on : (Last : State → Type 0) (state next : State) (line : Line) (rest : List Line) → AllKept (line_rules m wanted state line) → line_next m wanted state line ≡ next → Reaches m wanted Last next rest → Reaches m wanted Last state (line ∷ rest)
  on Last state next line rest kept e h =
      let here : Reaches m wanted Last (line_next m wanted state line) rest = subst (λ s. Reaches m wanted Last s rest) (sym e) h in
      record { kept = (kept, here.kept); ended = here.ended }
