use Rattle.std.proofs.Common.{◌≡◌, ◌≤◌, ◌*◌, ap, length, arith, get_or, List, ℕ}
use Rattle.std.proofs.lemmas.List.Elements.{All-get_or}
use Rattle.mill_model.specs.declared.order.Order.{Order}
use Rattle.mill_model.specs.Mill.{IsBetween, most_weight}
use Rattle.cert_slabs.proofs.Rising.{rises_at, rises_few}
use Rattle.cert_slabs.proofs.slab.load_of.Goals as goal

pub bounds-all-from : goal.bounds-all-from
bounds-all-from c = omega (arith, (rises_at 0 (length c.args.mill.now.orders) c.args.orders.now c.loop-order.order-index c.requires c.loop-order-test.true).1, c.from.ensures, ap length c.orders-all.ensures.value)

pub overflow_add-sum : goal.overflow_add-sum
overflow_add-sum c =
    let few = rises_few 0 (length c.args.mill.now.orders) c.args.orders.now c.requires (omega arith) in
    let at = (rises_at 0 (length c.args.mill.now.orders) c.args.orders.now c.loop-order.order-index c.requires c.loop-order-test.true).1 in
    let within : c.from.result ≤ length c.args.mill.now.orders = omega (arith, at, c.from.ensures) in
    let none : Order = record { weight = 0; colour = 0 } in
    let weight = All-get_or (λ (o : Order). IsBetween 1 most_weight o.weight) c.args.mill.now.orders c.from.result none (omega (arith, at, c.from.ensures)) c.orders-all.ensures.limits.weights in
    let same : (get_or c.orders-all.result.now c.from.result none).weight ≡ (get_or c.args.mill.now.orders c.from.result none).weight = ap (λ (os : List Order). (get_or os c.from.result none).weight) c.orders-all.ensures.value in
    omega (arith, few, weight.1, same, c.from-sum.ensures, c.loop-order.invariant.bounded, c.loop-order-test.true, c.orders-all.ensures.limits.order_count)
