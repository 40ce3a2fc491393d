-- Decisions about the questions of a mill.
use Rattle.std.specs.Prelude.{◌≡◌, length}
use Rattle.mill_model.specs.Mill.{Mill}
use Rattle.slab_decide.specs.Decided.{Decisions}

pub record HasExtentOf (m : Mill) (decisions : Decisions) : Type 0 where
  pub orders : decisions.orders ≡ length m.orders
  pub yard : decisions.yard ≡ length m.yard
