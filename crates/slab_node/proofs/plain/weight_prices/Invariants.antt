use Rattle.std.proofs.Common.{◌≡◌, pos, map, take, All}
use Rattle.mill_model.specs.declared.order.Order.{Order}
use Rattle.mill_model.specs.Prices.{IsPrice}
use Rattle.slab_node.proofs.plain.weight_prices.Given as goal

abbrev pub invariant-loop-order : goal.invariant-loop-order
invariant-loop-order l = record { value : l.pi.items ≡ map (λ (o : Order). pos o.weight) (take l.order-index l.mill.orders); range : All IsPrice l.pi.items }

abbrev pub invariant-loop-size : goal.invariant-loop-size
invariant-loop-size l = record { value : l.sigma.items ≡ map pos (take l.size-index l.mill.yard); range : All IsPrice l.sigma.items }
