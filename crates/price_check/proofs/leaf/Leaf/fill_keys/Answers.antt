use Rattle.std.proofs.Common.{arith}
use Rattle.price_check.proofs.leaf.Leaf.fill_keys.Goals as goal

pub push_reserved-requires : goal.push_reserved-requires
push_reserved-requires c = omega (arith, c.loop-order-test.true, c.loop-order.invariant.size, c.loop-order.invariant.room, c.loop-order.keys.ok.0, c.requires.size, c.requires.room, c.args.self.now.asked.limits.order_count)

pub push_reserved-requires-else-from-order : goal.push_reserved-requires-else-from-order
push_reserved-requires-else-from-order c = omega (arith, c.loop-order-test.true, c.loop-order.invariant.size, c.loop-order.invariant.room, c.loop-order.keys.ok.0, c.requires.size, c.requires.room, c.args.self.now.asked.limits.order_count)
