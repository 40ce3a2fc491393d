use Rattle.std.proofs.Common.{ℕ, ◌+◌, ◌<◌, get_or}
use Rattle.slab_closure.specs.Relations.{relation_at}
use Rattle.slab_decide.specs.Whole.{has_node, IsRowWhole}
use Rattle.slab_decide.proofs.column.are_orders_whole.Given as goal

abbrev pub invariant-loop-order : goal.invariant-loop-order
invariant-loop-order l = (k : ℕ) → k < l.order-index → IsRowWhole l.relations.count (relation_at l.relations) (has_node l.yard (record { kind = l.kind; orders = l.orders })) (l.yard + get_or l.orders k 0)
