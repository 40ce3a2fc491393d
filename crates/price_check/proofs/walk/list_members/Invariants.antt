use Rattle.std.proofs.Common.{◌≡◌, vec_capacity}
use Rattle.pricing_laws.proofs.Steps.{AreListedTo}
use Rattle.price_check.proofs.walk.list_members.Given as goal

abbrev pub invariant-loop-order : goal.invariant-loop-order
invariant-loop-order l = record {
  listed : AreListedTo l.heads l.chosen l.order l.orders.items;
  room : vec_capacity l.orders ≡ vec_capacity l.initial.orders;
}
