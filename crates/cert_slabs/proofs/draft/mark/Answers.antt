use Rattle.std.proofs.Common.{arith, length}
use Rattle.cert_slabs.proofs.Rising.{rises_at}
use Rattle.cert_slabs.proofs.draft.mark.Goals as goal

pub bounds-placed-from : goal.bounds-placed-from
bounds-placed-from c = omega (arith, (rises_at 0 (length c.args.placed.now) c.args.orders.now c.loop-order.order-index c.requires c.loop-order-test.true).1, c.from.ensures)
