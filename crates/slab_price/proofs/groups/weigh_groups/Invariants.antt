use Rattle.pricing_laws.proofs.Steps.{AreWeighedTo}
use Rattle.slab_price.proofs.groups.weigh_groups.Given as goal

abbrev pub invariant-loop-order : goal.invariant-loop-order
invariant-loop-order l = AreWeighedTo l.mill l.heads l.order l.weights
