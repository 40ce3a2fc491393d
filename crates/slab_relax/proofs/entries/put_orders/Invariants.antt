use Rattle.std.proofs.Common.{◌≡◌, ◌++◌, take}
use Rattle.slab_relax.specs.Rows.{order_entries}
use Rattle.slab_relax.proofs.entries.put_orders.Given as goal

abbrev pub invariant-loop-order : goal.invariant-loop-order
invariant-loop-order l = l.entries.items ≡ l.fn.entries.items ++ order_entries (take l.order-index l.orders)
