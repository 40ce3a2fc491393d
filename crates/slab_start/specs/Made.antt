-- Mills that are made from a number: each two orders fill a slab of size 44.
use Rattle.std.specs.Prelude.{ℕ, ◌+◌, ◌-◌, ◌/◌, ◌%◌, nat_eq, if◌then◌else◌, List, [], ◌∷◌, map}
use Rattle.std.specs.List.{range_with_len}
use Rattle.mill_model.specs.declared.order.Order.{Order}
use Rattle.mill_model.specs.Mill.{Mill}
use Rattle.number_draws.specs.Draws.{draw, among}

-- the first weight of pair k, counted from 1: 1 to 43. The other is what it lacks of 44
abbrev pub first_weight : ℕ → ℕ → ℕ
first_weight seed k = 1 + among 43 (draw seed k)

-- the weight of order i of so many, counted from 0; a last order without a partner has all 44
abbrev pub made_weight : ℕ → ℕ → ℕ → ℕ
made_weight orders seed i =
    (if nat_eq (i % 2) 1 then 44 - first_weight seed (i / 2 + 1)
    else (if nat_eq (i + 1) orders then 44 else first_weight seed (i / 2 + 1)))

abbrev pub made_order : ℕ → ℕ → ℕ → Order
made_order orders seed i = record { weight = made_weight orders seed i; colour = i % 88 + 1 }

-- the sizes of the CSPLib problem
abbrev pub made_sizes : List ℕ
made_sizes =
    12 ∷ 14 ∷ 17 ∷ 18 ∷ 19 ∷ 20 ∷ 23 ∷ 24 ∷ 25 ∷ 26 ∷ 27 ∷ 28 ∷ 29 ∷ 30 ∷ 32 ∷ 35 ∷ 39 ∷ 42 ∷ 43 ∷ 44 ∷ []

-- so many orders, in 88 colours, with no yard
abbrev pub made_mill : ℕ → ℕ → Mill
made_mill orders seed = record {
  sizes = made_sizes;
  colours = 88;
  colour_limit = 2;
  orders = map (made_order orders seed) (range_with_len 0 orders);
  yard = [];
  bars = [];
}
