use Rattle.std.proofs.Common.{◌≡◌, ◌≤◌, length, vec_capacity}
use Rattle.pricing_laws.specs.Worths.{AreWorths}
use Rattle.price_check.proofs.leaf.Leaf.fill_worths.Given as goal

abbrev pub invariant-loop-at : goal.invariant-loop-at
invariant-loop-at l = record {
  room : vec_capacity l.worths ≡ vec_capacity l.fn.worths;
  within : l.at ≤ length l.self.mill.now.orders;
  worths : AreWorths l.self.mill.now l.self.quote.now l.groups l.at l.worths.items;
}

abbrev pub decreases-loop-at : goal.decreases-loop-at
decreases-loop-at l = l.at
