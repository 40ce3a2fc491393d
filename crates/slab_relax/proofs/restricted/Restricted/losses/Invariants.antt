use Rattle.std.proofs.Common.{◌≡◌, pos, ◌≤ℤ◌, map, take, All}
use Rattle.mill_model.specs.Columns.{loss_of}
use Rattle.slab_columns.specs.declared.column.ColId.{ColId}
use Rattle.slab_master.specs.Given.{IsSmall}
use Rattle.slab_relax.specs.PoolCovers.{column_at}
use Rattle.slab_relax.proofs.restricted.Restricted.losses.Given as goal

abbrev pub invariant-loop-id : goal.invariant-loop-id
invariant-loop-id l = record {
  value : l.losses.items ≡ map (λ (id : ColId). pos (loss_of l.node.mill.now (column_at l.pool.columns id))) (take l.id-index l.self.ids.items);
  signs : All (λ c. pos 0 ≤ℤ c) l.losses.items;
  small : All IsSmall l.losses.items;
}
