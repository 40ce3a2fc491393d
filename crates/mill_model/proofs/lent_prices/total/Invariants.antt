use Rattle.std.proofs.Common.{◌≡◌, ◌*◌, ◌^◌, ◌≤◌, take}
use Rattle.std.specs.Prelude.{unsigned_abs}
use Rattle.mill_model.specs.SignedSums.{total_by}
use Rattle.mill_model.proofs.lent_prices.total.Given as goal

abbrev pub invariant-loop-price : goal.invariant-loop-price
invariant-loop-price l = record {
  value : l.sum ≡ total_by (λ q. q) (take l.price-index l.prices);
  small : unsigned_abs l.sum ≤ l.price-index * 2 ^ 62;
}
