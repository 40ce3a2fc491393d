use Rattle.std.proofs.Common.{◌≡◌, length}
use Rattle.mill_model.specs.Paths.{next_branch as branch_after}
use Rattle.price_check.proofs.trail.Trail.next_branch.Given as goal

abbrev pub invariant-loop-ask : goal.invariant-loop-ask
invariant-loop-ask l = record {
  left : branch_after l.self.decisions ≡ branch_after l.fn.self.decisions;
  orders : l.self.orders ≡ l.fn.self.orders;
  slabs : l.self.slabs ≡ l.fn.self.slabs;
}

abbrev pub decreases-loop-ask : goal.decreases-loop-ask
decreases-loop-ask l = length l.self.decisions
