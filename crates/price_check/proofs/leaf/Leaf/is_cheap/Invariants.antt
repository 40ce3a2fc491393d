use Rattle.std.proofs.Common.{◌≤◌, length}
use Rattle.price_check.proofs.CheapOrders.{AreWorthAtMost}
use Rattle.price_check.proofs.leaf.Leaf.is_cheap.Given as goal

abbrev pub invariant-loop-at : goal.invariant-loop-at
invariant-loop-at l = record {
  within : l.at ≤ length l.self.mill.now.orders;
  worth : AreWorthAtMost l.self.mill.now l.self.quote.now l.room l.at l.worth;
}

abbrev pub decreases-loop-at : goal.decreases-loop-at
decreases-loop-at l = l.at
