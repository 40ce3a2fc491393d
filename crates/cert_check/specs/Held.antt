-- What a reader holds of a line, and what becomes of it.
use Rattle.std.specs.Prelude.{◌≡◌, ℕ, ◌≤◌, Bool, true, false, List, [], ◌∷◌, ◌++◌, length, Option, Some, None, Result, Ok, Err}
use Rattle.mill_model.specs.Mill.{most_orders}
use Rattle.mill_model.specs.Columns.{Column, Rises}
use Rattle.cert_view.specs.declared.line.Line.{Line}
use Rattle.cert_view.specs.declared.line.Spelling.{Spelling}
use Rattle.cert_view.specs.Line.{next_line}
use Rattle.cert_view.specs.Held.{IsPart}
use Rattle.cert_view.specs.Text.{line_text}
use Rattle.cert_text.specs.Texts.{IsReadable}
use Rattle.cert_check.specs.declared.failure.Failure.{Failure}
use Rattle.cert_check.specs.declared.line_why.LineWhy.{LineWhy}
use Rattle.cert_check.specs.declared.line_why.LineWhy.TheVariants as carried
use Rattle.cert_check.specs.declared.phase.Phase.{Phase}
use Rattle.cert_check.specs.declared.phase.Phase.TheVariants as phases
use Rattle.cert_check.specs.Readings.{Reading, Machine}

-- the reading, and the line that the last bytes ended, where it keeps its rules
pub record Reader : Type 0 where
  pub reading : Reading
  pub last : Option Line

abbrev pub line_of_read : Option (Result Line Spelling) → Option Line
line_of_read None = None
line_of_read (Some (Err e)) = None
line_of_read (Some (Ok line)) = Some line

-- the held line, where it was taken
abbrev pub last_of : Bool → List ℕ → Option Line
last_of false held = None
last_of true held = line_of_read (next_line held)

-- a reader that runs holds less than a line, or one that was taken, and has room for the orders of a column
pub record IsReady (held : List ℕ) (taken : Bool) (failed : Option Failure) (room : ℕ) : Type 0 where
  pub part : failed ≡ None → taken ≡ false → IsPart held
  pub room_fits : failed ≡ None → most_orders ≤ room

-- the text has ended
abbrev pub IsOver : Phase → Type 0
IsOver phases.Proved = Unit {0}
IsOver phases.Unfinished = Unit {0}
IsOver phase = ⊥

-- the bytes are still less than a line, or end with this one
abbrev pub IsMoved : List ℕ → List ℕ → List ℕ → Option Line → Type 0
IsMoved held fed next None = next ≡ held ++ fed
IsMoved held fed next (Some line) = (next ≡ []) × (held ++ fed ≡ line_text line ++ 10 ∷ []) × IsReadable line

-- a why that carries a column carries this one
abbrev pub CarriesColumn : Option Column → LineWhy → Type 0
CarriesColumn bad (carried.Column kind orders) = bad ≡ Some (record { kind = kind; orders = orders })
CarriesColumn bad other = Unit {0}

-- the machine has found a column of the mill's orders
pub record HasColumn (machine : Machine) : Type 0 where
  pub column : Column
  pub bad : machine.bad ≡ Some column
  pub rise : Rises 0 (length machine.mill.orders) column.orders
