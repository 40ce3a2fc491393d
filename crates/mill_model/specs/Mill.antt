-- A mill as contracts see it, and the limits of its numbers.
use Rattle.std.specs.Prelude.{ℕ, ◌<◌, ◌≤◌, Bool, ◌&&◌, eqb, List, [], length, All}
use Rattle.mill_model.specs.declared.order.Order.{Order}

-- a mill has at most so many sizes
abbrev pub most_sizes : ℕ
most_sizes = 100

-- an order weighs at most this much, and no slab is of a greater size
abbrev pub most_weight : ℕ
most_weight = 10000

abbrev pub most_colours : ℕ
most_colours = 250

-- the greatest colour limit
abbrev pub most_colour_limit : ℕ
most_colour_limit = 3

-- the colour limit of a mill that was told none
abbrev pub usual_colour_limit : ℕ
usual_colour_limit = 2

abbrev pub most_orders : ℕ
most_orders = 250

-- a yard has at most so many surplus slabs
abbrev pub most_slabs : ℕ
most_slabs = 40

abbrev pub most_bars : ℕ
most_bars = 10000

-- no legal plan loses more, and no mill's orders weigh more together
abbrev pub most_loss : ℕ
most_loss = 2500000

-- no legal plan has more new slabs
abbrev pub most_count : ℕ
most_count = 250

-- a front has at most so many points
abbrev pub most_points : ℕ
most_points = 251

-- an order, yard or plan file has at most so many bytes
abbrev pub most_bytes : ℕ
most_bytes = 1048576

-- a certificate file that is read whole has at most so many bytes
abbrev pub most_certificate_bytes : ℕ
most_certificate_bytes = 268435456

-- a bar: an order, and a surplus slab on which it mustn't lie
abbrev pub Bar : Type 0
Bar = ℕ × ℕ

-- whether a bar is of this order and this surplus slab
abbrev pub is_bar : ℕ → ℕ → Bar → Bool
is_bar o s bar = eqb bar.0 o && eqb bar.1 s

pub record Yard : Type 0 where
  -- the sizes of the surplus slabs that lie there already
  pub sizes : List ℕ
  -- maybe repeated
  pub bars : List Bar

pub record Mill : Type 0 where
  -- the sizes that are cast, in the order of the file, maybe repeated
  pub sizes : List ℕ
  -- colours are the numbers from 1 to this one
  pub colours : ℕ
  -- how many different colours the orders on one slab may have
  pub colour_limit : ℕ
  pub orders : List Order
  -- the sizes and the bars of the yard
  pub yard : List ℕ
  pub bars : List Bar

abbrev pub yard_of : Mill → Yard
yard_of m = record { sizes = m.yard; bars = m.bars }

-- the mill with this yard in place of its own
abbrev pub with_yard : Mill → Yard → Mill
with_yard m yard = record m { yard = yard.sizes; bars = yard.bars }

-- the mill of these numbers, with this yard
abbrev pub mill_of : List ℕ → ℕ → ℕ → List Order → Yard → Mill
mill_of sizes colours colour_limit orders yard = record {
  sizes = sizes;
  colours = colours;
  colour_limit = colour_limit;
  orders = orders;
  yard = yard.sizes;
  bars = yard.bars;
}

-- the mill with an empty yard and the usual colour limit
abbrev pub bare_mill : List ℕ → ℕ → List Order → Mill
bare_mill sizes colours orders = mill_of sizes colours usual_colour_limit orders (record { sizes = []; bars = [] })

abbrev pub IsBetween : ℕ → ℕ → ℕ → Type 0
IsBetween low high n = (low ≤ n) × (n ≤ high)

-- every number of a yard is within its limits
pub record IsYard (yard : Yard) : Type 0 where
  pub count : length yard.sizes ≤ most_slabs
  pub sizes : All (IsBetween 1 most_weight) yard.sizes
  pub bar_count : length yard.bars ≤ most_bars
  pub bars : All (λ bar. (bar.0 < most_orders) × (bar.1 < length yard.sizes)) yard.bars

-- each bar is of one of so many orders
abbrev pub AreBarsAmong : ℕ → List Bar → Type 0
AreBarsAmong orders bars = All (λ bar. bar.0 < orders) bars

-- every number of a mill is within its limits
pub record IsInLimits (m : Mill) : Type 0 where
  pub size_count : IsBetween 1 most_sizes (length m.sizes)
  pub sizes : All (IsBetween 1 most_weight) m.sizes
  pub colours : IsBetween 1 most_colours m.colours
  pub colour_limit : IsBetween 1 most_colour_limit m.colour_limit
  pub order_count : length m.orders ≤ most_orders
  pub weights : All (λ order. IsBetween 1 most_weight order.weight) m.orders
  pub order_colours : All (λ order. IsBetween 1 m.colours order.colour) m.orders
  pub yard : IsYard (yard_of m)
  pub bars : AreBarsAmong (length m.orders) m.bars
