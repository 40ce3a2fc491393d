use Rattle.std.proofs.Common.{refl}
use Rattle.part_rows.proofs.masters.is_column.Goals as goal

pub returns : goal.returns
returns c holds = record { within = c.if-not-are_within.ensures refl; small = c.are_small.ensures holds }
