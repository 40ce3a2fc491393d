-- Orders that lie on one slab, and the columns of these orders.
use Rattle.std.specs.Prelude.{◌≡◌, ℕ, ◌^◌, ◌<◌, ◌≤◌, ℤ, unsigned_abs, List, length}
use Rattle.mill_model.specs.declared.kind.Kind.{Kind}
use Rattle.mill_model.specs.declared.kind.Kind.TheVariants.{New, Old}
use Rattle.mill_model.specs.Columns.{Column, Rises, colours_of, load}
use Rattle.pricing_laws.specs.Gains.{gains_of}
use Rattle.pricing_laws.specs.Problems.{Problem}

-- some orders that may lie on one slab, by their colours, with their load and gain
pub record IsPack (q : Problem) (orders : List ℕ) (weight : ℕ) (gain : ℤ) : Type 0 where
  pub rises : Rises 0 (length q.mill.orders) orders
  pub some : 0 < length orders
  pub colours : colours_of q.mill orders ≤ q.mill.colour_limit
  pub load_is : weight ≡ load q.mill orders
  pub gain_is : gain ≡ gains_of q.mill q.prices orders
  pub small : unsigned_abs gain ≤ 2 ^ 92

-- ---- columns of these orders

abbrev pub IsColumn : Kind → List ℕ → Column → Type 0
IsColumn kind orders c = c ≡ record { kind = kind; orders = orders }

abbrev pub IsOnNew : List ℕ → Column → Type 0
IsOnNew orders c = (size : ℕ) × IsColumn (New size) orders c

-- on one of the first so many surplus slabs
abbrev pub IsOnYard : ℕ → List ℕ → Column → Type 0
IsOnYard slabs orders c = (s : ℕ) × (s < slabs) × IsColumn (Old s) orders c
