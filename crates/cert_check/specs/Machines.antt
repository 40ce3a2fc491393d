-- The line machine as contracts see it.
use Rattle.std.specs.Prelude.{◌≡◌, length}
use Rattle.mill_model.specs.Mill.{Mill}
use Rattle.cert_slabs.specs.Drafts.{Draft}
use Rattle.cert_slabs.specs.Tallies.{Tally}
use Rattle.price_check.specs.Path.{Path}

-- what is kept has a place for each order and each surplus slab of the mill
pub record IsFitted (m : Mill) (draft : Draft) (tally : Tally) (path : Path) : Type 0 where
  pub placed : length draft.placed ≡ length m.orders
  pub covered : length tally.covered ≡ length m.orders
  pub used : length tally.used ≡ length m.yard
  pub orders : path.orders ≡ length m.orders
  pub slabs : path.slabs ≡ length m.yard
