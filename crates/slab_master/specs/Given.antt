-- The rows and columns that a master was given.
use Rattle.std.specs.Prelude.{ℕ, ◌^◌, ◌<◌, ◌≤◌, ℤ, unsigned_abs, List, All, map, Vec, length}
use Rattle.std.specs.Global.{Global}
use Rattle.slab_master.specs.declared.given.Sense.{Sense}

-- a row's sense and right side; an entry's row and number; a column's entries
abbrev pub Row : Type 0
Row = Sense × ℤ

abbrev pub Entry : Type 0
Entry = ℕ × ℤ

abbrev pub Column : Type 0
Column = List Entry

pub record Given : Type 0 where
  pub rows : List Row
  pub columns : List Column

-- the columns without where they lie
abbrev pub columns_of : List (Vec Entry Global) → List Column
columns_of columns = map (λ c. c.items) columns

abbrev pub IsSmall : ℤ → Type 0
IsSmall z = unsigned_abs z ≤ 2 ^ 40

-- the right sides are small
abbrev pub AreRows : List Row → Type 0
AreRows rows = All (λ r. IsSmall r.1) rows

-- the entries name rows below n, and are small
pub record IsColumn (n : ℕ) (column : Column) : Type 0 where
  pub within : All (λ e. e.0 < n) column
  pub small : All (λ e. IsSmall e.1) column

-- what a master keeps: small rows, and columns over them
pub record IsGiven (given : Given) : Type 0 where
  pub rows : AreRows given.rows
  pub columns : All (IsColumn (length given.rows)) given.columns
