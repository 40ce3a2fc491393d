-- Bytes as lines, and the first of them that is bad.
use Rattle.std.specs.Prelude.{◌≡◌, ◌⊎◌, ℕ, ◌+◌, ◌<◌, List, [], ◌++◌, length, Option, None, Some, Result, Ok, Err, min, ◌-◌, ◌^◌}
use Rattle.std.specs.List.{AllByRecursion}
use Rattle.mill_model.specs.Mill.{Mill}
use Rattle.cert_view.specs.declared.line.Line.{Line}
use Rattle.cert_view.specs.declared.line.Spelling.{Spelling}
use Rattle.cert_view.specs.declared.line.Spelling.TheVariants as spellings
use Rattle.cert_view.specs.Line.{next_line}
use Rattle.cert_text.specs.Texts.{lines_text, IsReadable}
use Rattle.cert_rules.specs.declared.why.Why.{Why}
use Rattle.cert_rules.specs.declared.why.Why.TheVariants as why
use Rattle.cert_rules.specs.Rules.{FirstBroken}
use Rattle.cert_rules.specs.States.{Wanted, State}
use Rattle.cert_rules.specs.States.State.{Begin, BetweenPoints, InPlan, InTree, InOpenTree, Ended}
use Rattle.cert_rules.specs.Turns.{line_rules, after, AreKept}

abbrev pub HasEnded : State → Type 0
HasEnded (Ended outcome points) = Unit {0}
HasEnded Begin = ⊥
HasEnded (BetweenPoints version points) = ⊥
HasEnded (InPlan version before sums slabs) = ⊥
HasEnded (InTree goal stage path) = ⊥
HasEnded (InOpenTree points path) = ⊥

-- the bytes begin with these lines, which keep their rules, and this is the rest
pub record Reads (m : Mill) (wanted : Wanted) (bytes : List ℕ) (lines : List Line) (rest : List ℕ) : Type 0 where
  pub bytes_are : bytes ≡ lines_text lines ++ rest
  pub readable : AllByRecursion IsReadable lines
  pub kept : AreKept m wanted Begin lines

-- why the next line is bad, as it was read: there is none, it can't be read, or it breaks a rule
abbrev pub IsBadLine : Mill → Wanted → State → Option (Result Line Spelling) → Why → Type 0
IsBadLine m wanted state None broken = broken ≡ why.End
IsBadLine m wanted state (Some (Err spellings.Form)) broken = broken ≡ why.Spelling
IsBadLine m wanted state (Some (Err spellings.Range)) broken = broken ≡ why.Range
IsBadLine m wanted state (Some (Ok line)) broken = FirstBroken (line_rules m wanted state line) broken

-- why the first line of the rest is bad: the text has ended and a byte is left, or it hasn't and the line is bad
abbrev pub IsBadNext : Mill → Wanted → State → List ℕ → Why → Type 0
IsBadNext m wanted state rest broken = (HasEnded state × (0 < length rest) × (broken ≡ why.Extra)) ⊎ ((HasEnded state → ⊥) × IsBadLine m wanted state (next_line rest) broken)

-- the number of the line after so many, from 1; numbers stand still at the last one of 64 bits
abbrev pub number_after : ℕ → ℕ
number_after count = min (count + 1) (2 ^ 64 - 1)

-- the lines before are good, and the next is bad: its number, and why
pub record IsFirstBad (m : Mill) (wanted : Wanted) (bytes : List ℕ) (n : ℕ) (broken : Why) : Type 0 where
  pub before : List Line
  pub rest : List ℕ
  pub reads : Reads m wanted bytes before rest
  pub counted : n ≡ number_after (length before)
  pub bad : IsBadNext m wanted (after m wanted Begin before) rest broken

-- no line is bad: the bytes are good lines, and the text has ended
pub record IsAccepted (m : Mill) (wanted : Wanted) (bytes : List ℕ) (lines : List Line) : Type 0 where
  pub reads : Reads m wanted bytes lines []
  pub ended : HasEnded (after m wanted Begin lines)
