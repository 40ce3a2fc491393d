use Rattle.pricing_laws.proofs.Steps.{ArePricedTo}
use Rattle.price_check.proofs.groups.price_groups.Given as goal

abbrev pub invariant-loop-order : goal.invariant-loop-order
invariant-loop-order l = ArePricedTo l.mill l.quote l.heads l.order l.gains
