use Rattle.std.proofs.Common.{◌≡◌, pos, vec_capacity}
use Rattle.std.proofs.Math.ListN.{replicate}
use Rattle.price_check.proofs.worths.clear_worths.Given as goal

abbrev pub invariant-loop : goal.invariant-loop
invariant-loop l = record {
  room : vec_capacity l.worths ≡ vec_capacity l.initial.worths;
  items : l.worths.items ≡ replicate l.counter (pos 0);
}
