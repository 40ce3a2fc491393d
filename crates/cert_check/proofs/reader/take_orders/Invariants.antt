use Rattle.std.proofs.Common.{◌≡◌, ◌≤◌, take, vec_capacity}
use Rattle.cert_check.proofs.reader.take_orders.Given as goal

abbrev pub invariant-loop-order : goal.invariant-loop-order
invariant-loop-order l = (l.spare.items ≡ take l.order-index l.orders) × (250 ≤ vec_capacity l.spare)
