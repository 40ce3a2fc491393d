-- A path down a tree, as contracts see it.
use Rattle.std.specs.Prelude.{ℕ, ◌≤◌, List, map, length, Option}
use Rattle.std.specs.List.{AllByRecursion}
use Rattle.mill_model.specs.declared.ask.Ask.{Ask}
use Rattle.mill_model.specs.Columns.{Column}
use Rattle.mill_model.specs.Decisions.{Decision}
use Rattle.mill_model.specs.Decisions.{IsAskAmong}
use Rattle.mill_model.specs.Trees.{asks_among, AreAskedOnce}

pub record Path : Type 0 where
  -- how many orders and surplus slabs the mill has
  pub orders : ℕ
  pub slabs : ℕ
  -- the latest first
  pub decisions : List Decision
  -- the column that the last test of a leaf found, where nothing has changed since
  pub bad : Option Column

-- the decisions alone
pub record Trail : Type 0 where
  pub orders : ℕ
  pub slabs : ℕ
  pub decisions : List Decision

abbrev pub asks_of : List Decision → List Ask
asks_of decisions = map (λ (d : Decision). d.0) decisions

-- what is true of the decisions of every path for so many orders and surplus slabs
pub record ArePath (orders slabs : ℕ) (decisions : List Decision) : Type 0 where
  pub asks : AllByRecursion (λ (d : Decision). IsAskAmong orders slabs d.0) decisions
  pub distinct : AreAskedOnce decisions
  pub count : length decisions ≤ asks_among orders slabs
