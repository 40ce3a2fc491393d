use Rattle.std.proofs.Common.{◌≡◌, length}
use Rattle.part_rows.proofs.masters.master_of.Given as goal

abbrev pub invariant-loop-column : goal.invariant-loop-column
invariant-loop-column l = record { rows : l.master.rows ≡ l.rows; columns : length l.master.columns ≡ l.column-index }
