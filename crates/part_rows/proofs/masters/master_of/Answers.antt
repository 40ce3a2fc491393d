use Rattle.std.proofs.Common.{refl}
use Rattle.part_rows.proofs.masters.master_of.Goals as goal

pub add_column-requires : goal.add_column-requires
add_column-requires c = rw c.loop-column.invariant.rows (c.if-not-is_column.ensures refl)
