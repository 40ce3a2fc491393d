use Rattle.std.proofs.Common.{ℕ, ◌<◌, ◌≤ℤ◌, pos, get_or}
use Rattle.mill_model.specs.Prices.{IsPrice}
use Rattle.slab_price.proofs.task.Task.least_charge.Given as goal

abbrev pub invariant-loop-charge : goal.invariant-loop-charge
invariant-loop-charge l = record {
  price : IsPrice l.least;
  cast : l.least ≤ℤ l.self.prices.now.mu;
  yard : (k : ℕ) → k < l.charge-index → l.least ≤ℤ get_or l.self.prices.now.sigma k (pos 0);
}
