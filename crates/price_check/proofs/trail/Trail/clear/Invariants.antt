use Rattle.std.proofs.Common.{◌≡◌, length}
use Rattle.price_check.proofs.trail.Trail.clear.Given as goal

abbrev pub invariant-loop : goal.invariant-loop
invariant-loop l = record {
  orders : l.self.orders ≡ l.fn.self.orders;
  slabs : l.self.slabs ≡ l.fn.self.slabs;
}

abbrev pub decreases-loop : goal.decreases-loop
decreases-loop l = length l.self.decisions
