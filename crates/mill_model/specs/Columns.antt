-- Slabs as columns: a kind of slab, and the orders that lie on it.
use Rattle.std.specs.Prelude.{◌≡◌, ℕ, suc, ◌-◌, ◌<◌, ◌≤◌, ◌+◌, Bool, false, cond, eqb, List, [], ◌∷◌, map, length, slice_index, slice_index_or}
use Rattle.std.specs.List.{sum_by, Contains, list_any}
use Rattle.mill_model.specs.declared.order.Order.{Order}
use Rattle.mill_model.specs.declared.kind.Kind.{Kind}
use Rattle.mill_model.specs.declared.kind.Kind.TheVariants.{New, Old}
use Rattle.mill_model.specs.declared.column.Column.{Column as Lent}
use Rattle.mill_model.specs.Mill.{Mill, is_bar}

-- the order with this number
abbrev pub order_at : Mill → ℕ → Order
order_at m o = slice_index_or m.orders o (record { weight = 0; colour = 0 })

-- what these orders weigh together
abbrev pub load : Mill → List ℕ → ℕ
load m orders = sum_by (λ o. (order_at m o).weight) orders

-- whether a list has a number
abbrev pub has : List ℕ → ℕ → Bool
has ys x = list_any (λ y. eqb y x) ys

-- how many different numbers a list has
abbrev pub different : List ℕ → ℕ
different [] = 0
different (x ∷ xs) = cond (has xs x) (different xs) (suc (different xs))

-- how many different colours these orders have
abbrev pub colours_of : Mill → List ℕ → ℕ
colours_of m orders = different (map (λ o. (order_at m o).colour) orders)

-- a slab of a listed size, or one in the yard
abbrev pub IsInStock : Mill → Kind → Type 0
IsInStock m (New size) = Contains m.sizes size
IsInStock m (Old s) = s < length m.yard

abbrev pub size_of : Mill → Kind → ℕ
size_of m (New size) = size
size_of m (Old s) = slice_index m.yard s

-- whether a slab is surplus slab s
abbrev pub is_old : ℕ → Kind → Bool
is_old s (New size) = false
is_old s (Old t) = eqb t s

-- whether an order mustn't lie on a slab
abbrev pub is_barred : Mill → ℕ → Kind → Bool
is_barred m o (New size) = false
is_barred m o (Old s) = list_any (is_bar o s) m.bars

pub record Column : Type 0 where
  pub kind : Kind
  pub orders : List ℕ

-- the column of a slab and the orders on it
abbrev pub column_of : Kind → List ℕ → Column
column_of kind orders = record { kind = kind; orders = orders }

-- the column that is lent
abbrev pub lent_column : Lent → Column
lent_column lent = column_of lent.kind lent.orders.now

-- whether some order of a column mustn't lie on its slab
abbrev pub has_barred : Mill → Column → Bool
has_barred m c = list_any (λ o. is_barred m o c.kind) c.orders

-- what the mill allows on one slab
pub record Fits (m : Mill) (c : Column) : Type 0 where
  pub kind : IsInStock m c.kind
  pub some : 0 < length c.orders
  pub weight : load m c.orders ≤ size_of m c.kind
  pub colours : colours_of m c.orders ≤ m.colour_limit
  pub bars : has_barred m c ≡ false

-- the numbers rise, from low on and below high
abbrev pub Rises : ℕ → ℕ → List ℕ → Type 0
Rises low high [] = Unit {0}
Rises low high (x ∷ xs) = (low ≤ x) × (x < high) × Rises (x + 1) high xs

pub record IsLegalColumn (m : Mill) (c : Column) : Type 0 where
  pub fits : Fits m c
  pub rises : Rises 0 (length m.orders) c.orders

-- the steel of a slab that no order takes
abbrev pub loss_of : Mill → Column → ℕ
loss_of m c = size_of m c.kind - load m c.orders
