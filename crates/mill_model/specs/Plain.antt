-- Limits that plain prices refute, without a search.
use Rattle.std.specs.Prelude.{ℕ, max, pos, ◌*ℤ◌, ◌+ℤ◌, ◌<ℤ◌, length, map, replicate, IsSomeAnd, ◌⊎◌}
use Rattle.std.specs.List.{sum, sum_by, fold}
use Rattle.mill_model.specs.declared.order.Order.{Order}
use Rattle.mill_model.specs.declared.limits.Limits.{Limits}
use Rattle.mill_model.specs.Mill.{Mill}
use Rattle.mill_model.specs.Prices.{Prices}

abbrev pub total_weight : Mill → ℕ
total_weight m = sum_by (λ order. order.weight) m.orders

abbrev pub greatest_size : Mill → ℕ
greatest_size m = fold max 0 m.sizes

-- only a loss below 0 would do
abbrev pub IsLossRefuted : Limits → Type 0
IsLossRefuted limits = IsSomeAnd limits.loss (λ a. a <ℤ pos 0)

abbrev pub IsCountRefuted : Limits → Type 0
IsCountRefuted limits = IsSomeAnd limits.count (λ b. b <ℤ pos 0)

-- so few new slabs and the whole yard don't hold the orders
abbrev pub IsWeightRefuted : Mill → Limits → Type 0
IsWeightRefuted m limits = IsSomeAnd limits.count (λ b. (b *ℤ pos (greatest_size m) +ℤ pos (sum m.yard)) <ℤ pos (total_weight m))

abbrev pub IsPlainlyRefuted : Mill → Limits → Type 0
IsPlainlyRefuted m limits = IsLossRefuted limits ⊎ (IsCountRefuted limits ⊎ IsWeightRefuted m limits)

abbrev pub loss_prices : Mill → Prices
loss_prices m = record {
  lambda = pos 1;
  mu = pos 0;
  pi = replicate (length m.orders) (pos 0);
  sigma = replicate (length m.yard) (pos 0);
}

abbrev pub count_prices : Mill → Prices
count_prices m = record {
  lambda = pos 0;
  mu = pos 1;
  pi = replicate (length m.orders) (pos 0);
  sigma = replicate (length m.yard) (pos 0);
}

abbrev pub weight_prices : Mill → Prices
weight_prices m = record {
  lambda = pos 0;
  mu = pos (greatest_size m);
  pi = map (λ (o : Order). pos o.weight) m.orders;
  sigma = map pos m.yard;
}
