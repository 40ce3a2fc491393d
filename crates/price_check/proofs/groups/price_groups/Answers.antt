use Rattle.std.proofs.Common.{arith}
use Rattle.std.proofs.lemmas.Int.{ints}
use Rattle.pricing_laws.proofs.Steps.{priced_room, priced_step, priced_all}
use Rattle.price_check.proofs.groups.price_groups.Goals as goal

pub overflow_add-gains : goal.overflow_add-gains
overflow_add-gains c = omega (arith, ints, priced_room c.args.mill.now c.args.quote.now c.args.heads.now c.loop-order.gains c.loop-order.order c.from.result c.requires.few c.loop-order-test.true c.loop-order.invariant, c.gain_of.ensures.small)

pub loop-order-preserved : goal.loop-order-preserved
loop-order-preserved c = priced_step c.args.mill.now c.args.quote.now c.args.heads.now c.loop-order.gains c.loop-order.order c.from.result c.gain_of.result c.requires.few c.requires.before c.loop-order-test.true c.from.ensures c.gain_of.ensures.value c.gain_of.ensures.small c.loop-order.invariant

pub returns : goal.returns
returns c = priced_all c.args.mill.now c.args.quote.now c.args.heads.now c.loop-order.gains c.loop-order.order c.requires.few (omega (arith, c.loop-order-test.false, c.loop-order.auto.order-end)) c.loop-order.invariant
