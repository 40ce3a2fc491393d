-- The restricted master of a node: the pool's columns that agree with the decisions, over the rows of the mill.
use Rattle.std.specs.Prelude.{◌≡◌, ◌+◌, ◌<◌, ℤ, pos, List, [], ◌∷◌, ◌++◌, map, length}
use Rattle.std.specs.List.{All, filter, zip}
use Rattle.std.specs.Int.{is_positive}
use Rattle.slab_frac.specs.Fraction.{Fraction}
use Rattle.mill_model.specs.declared.limits.Limits.{Limits}
use Rattle.mill_model.specs.Mill.{Mill}
use Rattle.mill_model.specs.Columns.{Column, loss_of}
use Rattle.mill_model.specs.Decisions.{Decision, column_agrees}
use Rattle.mill_model.specs.Prices.{Prices}
use Rattle.slab_frac.specs.Scaled.{AreInRange}
use Rattle.slab_master.specs.Given.{Given, Entry}
use Rattle.slab_master.specs.Prices.{ArePricesAt}
use Rattle.slab_columns.specs.declared.column.ColId.{ColId}
use Rattle.slab_relax.specs.declared.node.Node.{Node}
use Rattle.slab_relax.specs.declared.restricted.Restricted.{Restricted}
use Rattle.slab_relax.specs.PoolCovers.{Parts, column_at}
use Rattle.slab_relax.specs.Rows.{rows_of, entries_of}
use Rattle.slab_relax.specs.Duals.{prices_of}

-- the columns that agree, in order
abbrev pub allowed_of : List Decision → List Column → List Column
allowed_of decisions columns = filter (column_agrees decisions) columns

-- the master over the columns that agree
abbrev pub master_by : Mill → Limits → List Decision → List Column → Given
master_by m limits decisions columns = record { rows = rows_of m limits; columns = map (entries_of m limits) (allowed_of decisions columns) }

-- a master with a column more
abbrev pub with_column : Given → List Entry → Given
with_column given entries = record given { columns = given.columns ++ entries ∷ [] }

-- the numbers name the columns that agree, in order
pub record AreAllowedIds (decisions : List Decision) (columns : List Column) (ids : List ColId) : Type 0 where
  pub within : All (λ (id : ColId). id.0 < length columns) ids
  pub named : map (column_at columns) ids ≡ allowed_of decisions columns

-- the master of a node over a pool's columns, each known by its number
pub record IsRestricted (node : Node) (columns : List Column) (r : Restricted) : Type 0 where
  pub given : r.master ≡ master_by node.mill.now node.limits node.decisions.now.list columns
  pub numbers : AreAllowedIds node.decisions.now.list columns r.ids.items

-- whole numbers, one per row, that refute the columns given; the prices are made of them
pub record AreFarkas (m : Mill) (limits : Limits) (given : Given) (p : Prices) : Type 0 where
  pub numbers : List ℤ
  pub size : length numbers ≡ length m.orders + length m.yard + 2
  pub range : AreInRange numbers
  pub refuting : ArePricesAt given.rows given.columns numbers
  pub prices_are : p ≡ prices_of m limits numbers

-- the numbers of the columns with a multiplier above 0, each with it
abbrev pub used_of : List ColId → List Fraction → Parts
used_of ids xs = filter (λ (part : ColId × Fraction). is_positive part.1.num) (zip ids xs)

-- what columns lose, as costs
abbrev pub losses_of : Mill → List Column → List ℤ
losses_of m cs = map (λ (c : Column). pos (loss_of m c)) cs

-- what the columns lose that a node allows
abbrev pub losses_at : Node → List Column → List ℤ
losses_at node columns = losses_of node.mill.now (allowed_of node.decisions.now.list columns)
