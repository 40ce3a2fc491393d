use Rattle.std.proofs.Common.{◌≡◌, ℕ, ◌<◌, ◌≤◌, List, length, get_or, subst, ap, ◌∙◌, arith}
use Rattle.mill_model.specs.declared.order.Order.{Order}
use Rattle.mill_model.specs.Columns.{order_at}
use Rattle.pricing_laws.proofs.Groups.{AreSums}
use Rattle.pricing_laws.proofs.Groupings.{light_more, weighed_more, weights_done}
use Rattle.slab_node.proofs.kinds.weigh.Goals as goal

pub loop-order-preserved : goal.loop-order-preserved
loop-order-preserved c =
    let weight : c.from.result ≡ (order_at c.args.mill.now c.loop-order.order).weight = c.from.ensures ∙ ap (λ (os : List Order). (get_or os c.loop-order.order (record { weight = 0; colour = 0 })).weight) c.orders.ensures.value in
    let light : c.from.result ≤ 10000 = omega (arith, weight, c.orders.ensures.limits.weights c.loop-order.order (record { weight = 0; colour = 0 }) (omega (arith, c.loop-order-test.true, c.requires.orders))) in
    let inside : c.from-in-loop-order.result < length c.loop-order.weights = omega (arith, c.from-in-loop-order.ensures, c.requires.before c.loop-order.order c.loop-order-test.true, c.loop-order-test.true, c.loop-order.invariant.sums.size) in
    record {
      sums = weighed_more c.args.mill.now c.args.heads.now c.loop-order.weights c.loop-order.order c.from-in-loop-order.result c.from.result c.requires.before c.loop-order-test.true c.from-in-loop-order.ensures weight c.loop-order.invariant.sums;
      light = light_more c.loop-order.weights c.loop-order.order c.from-in-loop-order.result c.from.result inside light c.loop-order.invariant.light;
    }

pub returns : goal.returns
returns c =
    let done : c.loop-order.order ≡ length c.args.heads.now = omega (arith, c.loop-order-test.false, c.loop-order.auto.order-end) in
    weights_done c.args.mill.now c.args.heads.now c.loop-order.weights c.requires.few
    (subst (λ (o : ℕ). AreSums (λ i. (order_at c.args.mill.now i).weight) c.args.heads.now o c.loop-order.weights) done c.loop-order.invariant.sums)
    (λ head. omega (arith, c.loop-order.invariant.light head, done))
