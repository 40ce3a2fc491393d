-- A master's numbers, one per row, as prices of the mill.
use Rattle.std.specs.Prelude.{ℤ, pos, ◌-ℤ◌, List, map, take, drop, length, Option, Some, None}
use Rattle.mill_model.specs.declared.limits.Limits.{Limits}
use Rattle.mill_model.specs.Mill.{Mill}
use Rattle.mill_model.specs.Prices.{Prices}
use Rattle.slab_master.specs.Sums.{number_at}
use Rattle.slab_relax.specs.Rows.{loss_row, count_row}

abbrev pub turned : ℤ → ℤ
turned y = pos 0 -ℤ y

-- the price of a limit: none where the limit is missing
abbrev pub price_of : Option ℤ → ℤ → ℤ
price_of None y = pos 0
price_of (Some a) y = turned y

-- the numbers of AtMost rows change their sign
abbrev pub prices_of : Mill → Limits → List ℤ → Prices
prices_of m limits ys = record {
  lambda = price_of limits.loss (number_at ys (loss_row m));
  mu = price_of limits.count (number_at ys (count_row m));
  pi = take (length m.orders) ys;
  sigma = map turned (take (length m.yard) (drop (length m.orders) ys));
}
