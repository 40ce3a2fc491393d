use Rattle.std.proofs.Common.{refl}
use Rattle.part_rows.proofs.masters.lined.Goals as goal

pub add_column-requires : goal.add_column-requires
add_column-requires c = rw c.loop-column.invariant (c.if-not-is_column.ensures refl)
