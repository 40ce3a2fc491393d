use Rattle.std.proofs.Common.{ℕ, ◌<◌, ◌≤ℤ◌, pos, get_or}
use Rattle.mill_model.specs.Prices.{IsPrice}
use Rattle.price_check.proofs.leaf.Leaf.least_charge.Given as goal

abbrev pub invariant-loop-charge : goal.invariant-loop-charge
invariant-loop-charge l = record {
  price : IsPrice l.least;
  cast : l.least ≤ℤ l.self.quote.now.mu;
  yard : (k : ℕ) → k < l.charge-index → l.least ≤ℤ get_or l.self.quote.now.sigma k (pos 0);
}
