use Rattle.std.proofs.Common.{◌≡◌, drop}
use Rattle.std.specs.Prelude.{◌+ℤ◌}
use Rattle.slab_master.specs.Sums.{cost_sum}
use Rattle.slab_master.proofs.check_least.cost_total.Given as goal

abbrev pub invariant-loop-j : goal.invariant-loop-j
invariant-loop-j l = (l.total +ℤ cost_sum (drop l.j l.multipliers) (drop l.j l.costs)) ≡ cost_sum l.multipliers l.costs
