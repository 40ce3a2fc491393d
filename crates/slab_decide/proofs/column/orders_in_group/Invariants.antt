use Rattle.std.proofs.Common.{◌≡◌, ◌≤◌, take}
use Rattle.slab_closure.specs.Relations.{relation_at}
use Rattle.slab_decide.specs.Whole.{orders_in_group}
use Rattle.slab_decide.proofs.column.orders_in_group.Given as goal

abbrev pub invariant-loop-order : goal.invariant-loop-order
invariant-loop-order l = (l.found ≡ orders_in_group (relation_at l.relations) l.yard (take l.order-index l.orders) l.x) × (l.found ≤ l.order-index)
