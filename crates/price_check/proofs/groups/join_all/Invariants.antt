use Rattle.std.proofs.Common.{reverse, take}
use Rattle.pricing_laws.specs.Groups.{AreHeads}
use Rattle.price_check.proofs.groups.join_all.Given as goal

abbrev pub invariant-loop-ask : goal.invariant-loop-ask
invariant-loop-ask l = AreHeads (reverse (take l.ask-index l.decisions)) l.heads
