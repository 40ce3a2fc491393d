use Rattle.std.proofs.Common.{◌≡◌, drop}
use Rattle.cert_keep.specs.Building.{put_on}
use Rattle.cert_keep.proofs.placing.put_on.Given as goal

abbrev pub invariant-loop-order : goal.invariant-loop-order
invariant-loop-order l = put_on l.place l.slab (drop l.order-index l.orders) ≡ put_on l.initial.place l.slab l.orders
