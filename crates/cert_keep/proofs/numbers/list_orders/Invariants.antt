use Rattle.std.proofs.Common.{◌≡◌, take}
use Rattle.cert_keep.specs.Building.{orders16}
use Rattle.cert_keep.proofs.numbers.list_orders.Given as goal

abbrev pub invariant-loop-number : goal.invariant-loop-number
invariant-loop-number l = l.orders.items ≡ orders16 (take l.number-index l.numbers)
