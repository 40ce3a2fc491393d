use Rattle.std.proofs.Common.{◌≡◌, vec_capacity}
use Rattle.std.proofs.Math.ListN.{replicate}
use Rattle.price_check.proofs.links.refill.Given as goal

abbrev pub invariant-loop : goal.invariant-loop
invariant-loop l = record {
  room : vec_capacity l.list ≡ vec_capacity l.initial.list;
  items : l.list.items ≡ replicate l.counter l.value;
}
