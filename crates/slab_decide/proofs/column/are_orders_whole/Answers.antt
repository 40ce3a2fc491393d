use Rattle.slab_closure.specs.Relations.{relation_at}
use Rattle.slab_decide.proofs.Counted.{orders_in_range}
use Rattle.slab_decide.proofs.column.are_orders_whole.Goals as goal

pub is_row_whole-requires-clause-x : goal.is_row_whole-requires-clause-x
is_row_whole-requires-clause-x c =
    orders_in_range c.args.relations.now.count c.args.yard (relation_at c.args.relations.now) c.args.kind c.args.orders.now c.requires c.loop-order.order-index 0 c.loop-order-test.true
