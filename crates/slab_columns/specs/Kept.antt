-- What the fields of a pool keep.
use Rattle.std.specs.Prelude.{ℕ, ◌≤◌, List, length}
use Rattle.mill_model.specs.Mill.{Mill}
use Rattle.slab_columns.specs.Pool.{IsPool}
use Rattle.slab_columns.specs.Flat.{columns_of, AreLaidOut}
use Rattle.slab_columns.specs.Index.{Index, IsIndex}
use Rattle.slab_columns.specs.Recency.{Recency, AreBelow}
use Rattle.slab_columns.specs.declared.flat.Start.{Start}

-- the columns are laid out and a pool, the index is theirs, and those that were basic are among them
pub record IsKept (mill : Mill) (orders : List ℕ) (starts : List Start) (noted : Index) (basics : Recency) : Type 0 where
  pub laid_out : AreLaidOut (length orders) starts
  pub pool : IsPool (record { mill = mill; columns = columns_of orders starts })
  pub index : IsIndex (columns_of orders starts) noted
  pub room : length starts ≤ basics.room
  pub basic : AreBelow (length starts) basics.ids
