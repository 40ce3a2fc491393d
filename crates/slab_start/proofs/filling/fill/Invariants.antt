use Rattle.std.proofs.Common.{◌≡◌, [], drop}
use Rattle.slab_start.specs.FirstFit.{place_orders}
use Rattle.slab_start.proofs.filling.fill.Given as goal

abbrev pub invariant-loop-order : goal.invariant-loop-order
invariant-loop-order l = place_orders l.mill l.limit (drop l.order-index l.orders) l.slabs.items ≡ place_orders l.mill l.limit l.orders []
