use Rattle.std.proofs.Common.{ap, ◌∙◌, arith, List, get_or}
use Rattle.mill_model.specs.declared.order.Order.{Order}
use Rattle.pricing_laws.proofs.Steps.{weighed_step, weighed_all}
use Rattle.price_check.proofs.groups.weigh_groups.Goals as goal

pub loop-order-preserved : goal.loop-order-preserved
loop-order-preserved c =
    weighed_step c.args.mill.now c.args.heads.now c.loop-order.weights c.loop-order.order c.from-in-loop-order.result c.from.result c.orders.ensures.limits c.requires.orders c.requires.before c.loop-order-test.true c.from-in-loop-order.ensures
    (c.from.ensures ∙ ap (λ (os : List Order). (get_or os c.loop-order.order (record { weight = 0; colour = 0 })).weight) c.orders.ensures.value) c.loop-order.invariant

pub returns : goal.returns
returns c = weighed_all c.args.mill.now c.args.heads.now c.loop-order.weights c.loop-order.order c.requires.few (omega (arith, c.loop-order-test.false, c.loop-order.auto.order-end)) c.loop-order.invariant
