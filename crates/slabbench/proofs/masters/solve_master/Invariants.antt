use Rattle.std.proofs.Common.{◌≡◌, length}
use Rattle.slabbench.proofs.masters.solve_master.Given as goal

abbrev pub invariant-steps : goal.invariant-steps
invariant-steps l = length l.master.rows ≡ l.count
