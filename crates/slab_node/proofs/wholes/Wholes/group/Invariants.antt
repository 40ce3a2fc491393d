use Rattle.std.proofs.Common.{◌≡◌, false, All, take}
use Rattle.mill_model.specs.Columns.{has}
use Rattle.slab_columns.specs.declared.column.ColId.{ColId}
use Rattle.slab_frac.specs.Fraction.{Fraction}
use Rattle.slab_relax.specs.PoolCovers.{column_at}
use Rattle.slab_node.proofs.wholes.Wholes.group.Given as goal

abbrev pub invariant-loop-part : goal.invariant-loop-part
invariant-loop-part l = All (λ (part : ColId × Fraction). has (column_at l.self.pool.now.columns part.0).orders l.order ≡ false) (take l.part-index l.self.cover.now)
