use Rattle.std.proofs.Common.{◌≤◌, length}
use Rattle.pricing_laws.specs.Worths.{AreWorths}
use Rattle.slab_price.proofs.task.Task.worths.Given as goal

abbrev pub invariant-loop-at : goal.invariant-loop-at
invariant-loop-at l = record {
  within : l.at ≤ length l.self.mill.now.orders;
  worths : AreWorths l.self.mill.now l.self.prices.now l.groups l.at l.worths.items;
}

abbrev pub decreases-loop-at : goal.decreases-loop-at
decreases-loop-at l = l.at
