use Rattle.std.proofs.Common.{◌≡◌, ℕ, ◌+◌, ◌*◌, ◌≤◌, true, take, get_or, sum}
use Rattle.mill_model.specs.Columns.{has}
use Rattle.cert_slabs.specs.Tallies.{AreWithin, IsAdded}
use Rattle.cert_slabs.proofs.tally.cover.Given as goal

abbrev pub invariant-loop-order : goal.invariant-loop-order
invariant-loop-order l = record {
  fits : (o : ℕ) → has (take l.order-index l.orders) o ≡ true → get_or l.initial.covered o 0 + l.times ≤ l.most;
  added : IsAdded l.initial.covered l.covered (take l.order-index l.orders) l.times;
  sums : sum l.covered ≡ sum l.initial.covered + l.times * l.order-index;
  within : AreWithin l.most l.covered;
}
