-- The numbers of a made mill are within the limits.
use Rattle.std.proofs.Common.{ℕ, ◌+◌, ◌-◌, ◌/◌, ◌%◌, ◌<◌, ◌≤◌, Bool, true, false, cond, ◌&&◌, eqb, leb, length, get_or, map, refl, arith}
use Rattle.std.specs.List.{range_with_len}
use Rattle.std.proofs.lemmas.Bool.{and_parts, leb-true}
use Rattle.std.proofs.lemmas.List.{length-map}
use Rattle.std.proofs.lemmas.List.Sums.{AllPass-from_list_all}
use Rattle.std.proofs.lemmas.List.Elements.{All-nil, All-map}
use Rattle.mill_model.specs.declared.order.Order.{Order}
use Rattle.mill_model.specs.Mill.{IsInLimits, IsBetween, most_orders, most_weight}
use Rattle.slab_start.specs.Made.{first_weight, made_weight, made_order, made_sizes, made_mill}
use Rattle.number_draws.specs.Draws.{draw}
use Rattle.slab_filling.proofs.Ranges.{length-range}

pub first_between : (seed k : ℕ) → IsBetween 1 43 (first_weight seed k)
first_between seed k = remainder (draw seed k / 65536)
  where
    remainder : (x : ℕ) → (1 ≤ 1 + x % 43) × (1 + x % 43 ≤ 43)
    remainder x = (omega arith, omega arith)

pub weight_between : (orders seed i : ℕ) → IsBetween 1 44 (made_weight orders seed i)
weight_between orders seed i =
    let first = first_between seed (i / 2 + 1) in
    by_tests (first_weight seed (i / 2 + 1)) first.0 first.1 (eqb (i % 2) 1) (eqb (i + 1) orders)
  where
    by_tests : (w : ℕ) → 1 ≤ w → w ≤ 43 → (second last : Bool) → IsBetween 1 44 (cond second (44 - w) (cond last 44 w))
    by_tests w low high true last = (omega arith, omega arith)
    by_tests w low high false true = (omega arith, omega arith)
    by_tests w low high false false = (low, omega arith)

pub made_in_limits : (orders seed : ℕ) → orders ≤ most_orders → IsInLimits (made_mill orders seed)
made_in_limits orders seed few = record {
  size_count = (omega arith, omega arith);
  sizes = λ k d h. let both = and_parts (leb 1 (get_or made_sizes k d)) (leb (get_or made_sizes k d) 10000) (AllPass-from_list_all (λ u. leb 1 u && leb u 10000) made_sizes refl k d h) in
      (leb-true 1 (get_or made_sizes k d) both.0, leb-true (get_or made_sizes k d) 10000 both.1);
  colours = (omega arith, omega arith);
  colour_limit = (omega arith, omega arith);
  order_count = omega (arith, length-map (range_with_len 0 orders) (made_order orders seed), length-range 0 orders);
  weights = All-map (λ (o : Order). IsBetween 1 most_weight o.weight) (made_order orders seed) (range_with_len 0 orders)
      (λ k d h. let w = weight_between orders seed (get_or (range_with_len 0 orders) k d) in (w.0, omega (arith, w.1)));
  order_colours = All-map (λ (o : Order). IsBetween 1 88 o.colour) (made_order orders seed) (range_with_len 0 orders)
      (λ k d h. colour_between (get_or (range_with_len 0 orders) k d));
  yard = record { count = omega arith; sizes = All-nil (IsBetween 1 most_weight); bar_count = omega arith; bars = All-nil (λ bar. (bar.0 < most_orders) × (bar.1 < 0)) };
  bars = All-nil (λ bar. bar.0 < length (map (made_order orders seed) (range_with_len 0 orders)));
}
  where
    colour_between : (i : ℕ) → (1 ≤ i % 88 + 1) × (i % 88 + 1 ≤ 88)
    colour_between i = (omega arith, omega arith)
