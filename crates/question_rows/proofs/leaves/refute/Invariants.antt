use Rattle.std.proofs.Common.{◌≡◌, length}
use Rattle.question_rows.proofs.leaves.refute.Given as goal

abbrev pub invariant-steps : goal.invariant-steps
invariant-steps l = record { orders : l.path.orders ≡ length l.mill.orders; slabs : l.path.slabs ≡ length l.mill.yard }
