-- Questions that may be split on.
use Rattle.std.specs.Prelude.{ℕ, ◌<◌, List, All, length}
use Rattle.mill_model.specs.declared.ask.Ask.{Ask}
use Rattle.slab_columns.specs.declared.column.ColId.{ColId}
use Rattle.slab_decide.specs.Decided.{Decisions, IsAskOf, IsOpen}
use Rattle.slab_relax.specs.PoolCovers.{Parts}
use Rattle.slab_frac.specs.Fraction.{Fraction}
use Rattle.mill_model.specs.Columns.{Column}

-- a question of as many orders and surplus slabs, which the decisions leave open
pub record IsOpenAskOf (decisions : Decisions) (ask : Ask) : Type 0 where
  pub asked : IsAskOf decisions ask
  pub opened : IsOpen decisions.list ask

-- how many orders and surplus slabs questions are about
pub record Extent : Type 0 where
  pub orders : ℕ
  pub yard : ℕ

abbrev pub extent_of : Decisions → Extent
extent_of decisions = record { orders = decisions.orders; yard = decisions.yard }

-- the cover names columns that there are
abbrev pub AreThere : List Column → Parts → Type 0
AreThere columns cover = All (λ (part : ColId × Fraction). part.0.0 < length columns) cover
