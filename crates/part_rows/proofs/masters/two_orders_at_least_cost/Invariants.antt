use Rattle.std.proofs.Common.{◌≡◌, length}
use Rattle.part_rows.proofs.masters.two_orders_at_least_cost.Given as goal

abbrev pub invariant-loop-costs : goal.invariant-loop-costs
invariant-loop-costs g l = length l.master.columns ≡ 3
