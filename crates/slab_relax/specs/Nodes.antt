-- What belongs to a node of a search.
use Rattle.std.specs.Prelude.{◌≡◌, ℕ, List, length}
use Rattle.mill_model.specs.declared.limits.Limits.{Limits}
use Rattle.mill_model.specs.Mill.{Mill}
use Rattle.mill_model.specs.Limits.{number_of}
use Rattle.slab_master.specs.Given.{IsSmall}
use Rattle.slab_decide.specs.Decided.{Decisions}

-- the sizes and the decisions are those of one mill, and each limit that stands is at most 2 ^ 40 in absolute value
pub record BelongTogether (m : Mill) (listed : List ℕ) (decisions : Decisions) (limits : Limits) : Type 0 where
  pub sizes : listed ≡ m.sizes
  pub orders : decisions.orders ≡ length m.orders
  pub yard : decisions.yard ≡ length m.yard
  pub loss : IsSmall (number_of limits.loss)
  pub count : IsSmall (number_of limits.count)
