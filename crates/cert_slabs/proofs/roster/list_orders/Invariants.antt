use Rattle.std.proofs.Common.{◌≡◌, ◌↔◌, ◌≤◌, take, drop, vec_capacity}
use Rattle.cert_rules.specs.Slabs.{orders_on}
use Rattle.cert_slabs.specs.Roster.{AreListed}
use Rattle.cert_slabs.proofs.roster.list_orders.Given as goal

abbrev pub invariant-loop-number : goal.invariant-loop-number
invariant-loop-number l = record {
  orders : l.orders.items ≡ orders_on (take l.number-index l.numbers);
  room : 250 ≤ vec_capacity l.orders;
  low : l.low ≤ 250;
  rest : AreListed l.count 0 l.numbers ↔ AreListed l.count l.low (drop l.number-index l.numbers);
}
