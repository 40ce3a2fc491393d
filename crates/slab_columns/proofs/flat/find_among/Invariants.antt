use Rattle.std.proofs.Common.{◌≡◌, ℕ, ◌<◌, Some, slice_get, get_or}
use Rattle.mill_model.specs.Columns.{column_of}
use Rattle.slab_columns.specs.Flat.{columns_of}
use Rattle.slab_columns.proofs.flat.find_among.Given as goal

abbrev pub invariant-loop-id : goal.invariant-loop-id
invariant-loop-id l = (k : ℕ) → k < l.id-index → slice_get (columns_of l.all l.starts) (get_or l.ids k 0) ≡ Some (column_of l.kind l.orders) → ⊥
