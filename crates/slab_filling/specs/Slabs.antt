-- Slabs that are filled: an open new slab counts with the greatest listed size.
use Rattle.std.specs.Prelude.{ℕ, Bool, ◌&&◌, not, nat_le, nat_lt, List, [], min, slice_index_or}
use Rattle.std.specs.List.{filter, fold}
use Rattle.mill_model.specs.declared.kind.Kind.{Kind}
use Rattle.mill_model.specs.declared.kind.Kind.TheVariants.{New, Old}
use Rattle.mill_model.specs.Mill.{Mill}
use Rattle.mill_model.specs.Columns.{Column, load, size_of, colours_of, is_barred}
use Rattle.mill_model.specs.Plain.{greatest_size}
use Rattle.slab_filling.specs.Lists.{put_before}

abbrev pub empty : Kind → Column
empty kind = record { kind = kind; orders = [] }

-- orders that rise, with one more
abbrev pub put_order : ℕ → List ℕ → List ℕ
put_order o orders = put_before (nat_lt o) o orders

-- the slab with one order more
abbrev pub with_order : ℕ → Column → Column
with_order o c = record c { orders = put_order o c.orders }

-- the load stays within the size
abbrev pub has_room : Mill → ℕ → Column → Bool
has_room m o c = nat_le (load m (put_order o c.orders)) (size_of m c.kind)

-- there are not too many colours
abbrev pub has_few_colours : Mill → ℕ → Column → Bool
has_few_colours m o c = nat_le (colours_of m (put_order o c.orders)) m.colour_limit

-- the slab holds the order with its others, and it isn't barred from the slab
abbrev pub takes : Mill → ℕ → Column → Bool
takes m o c = has_room m o c && has_few_colours m o c && not (is_barred m o c.kind)

-- a slab without other orders takes it
abbrev pub takes_alone : Mill → ℕ → Kind → Bool
takes_alone m o kind = takes m o (empty kind)

-- the first of its orders, which is the least
abbrev pub least_order : Column → ℕ
least_order c = slice_index_or c.orders 0 0

-- whether the other's least order is greater
abbrev pub is_later : Column → Column → Bool
is_later c other = nat_lt (least_order c) (least_order other)

-- the least listed size that is at least the load, where there is one
abbrev pub least_size : Mill → ℕ → ℕ
least_size m weight = fold min (greatest_size m) (filter (nat_le weight) m.sizes)

-- at the end a new slab is of the least listed size that holds its load
abbrev pub closed_kind : Mill → Column → Kind → Kind
closed_kind m c (New size) = New (least_size m (load m c.orders))
closed_kind m c (Old s) = Old s

abbrev pub closed : Mill → Column → Column
closed m c = record c { kind = closed_kind m c c.kind }
