-- A plan from which the orders of two slabs are released.
use Rattle.std.specs.Prelude.{ℕ, Bool, not, ◌||◌, eqb, List, map, length, slice_index_or}
use Rattle.std.specs.List.{filter, range_with_len}
use Rattle.mill_model.specs.declared.kind.Kind.{Kind}
use Rattle.mill_model.specs.declared.kind.Kind.TheVariants.{New, Old}
use Rattle.mill_model.specs.Mill.{Mill}
use Rattle.mill_model.specs.Columns.{Column, has}
use Rattle.mill_model.specs.Plans.{Plan, slab}
use Rattle.mill_model.specs.Plain.{greatest_size}
use Rattle.slab_filling.specs.Slabs.{empty}

-- the slabs of a plan, with the orders on each
abbrev pub slabs_of : Plan → List Column
slabs_of p = map (slab p) (range_with_len 0 (length p.kinds))

-- a new slab counts with the greatest listed size again
abbrev pub opened_kind : Mill → Kind → Kind
opened_kind m (New size) = New (greatest_size m)
opened_kind m (Old s) = Old s

abbrev pub opened : Mill → Column → Column
opened m c = record c { kind = opened_kind m c.kind }

abbrev pub slab_at : List Column → ℕ → Column
slab_at slabs k = slice_index_or slabs k (empty (New 0))

abbrev pub is_one_of : ℕ → ℕ → ℕ → Bool
is_one_of a b k = eqb k a || eqb k b

-- the slabs but these two, in their order
abbrev pub kept : Mill → ℕ → ℕ → List Column → List Column
kept m a b slabs = map (λ k. opened m (slab_at slabs k)) (filter (λ k. not (is_one_of a b k)) (range_with_len 0 (length slabs)))

-- the orders on these two slabs, by rising number
abbrev pub released : Mill → ℕ → ℕ → List Column → List ℕ
released m a b slabs = filter (λ o. has (slab_at slabs a).orders o || has (slab_at slabs b).orders o) (range_with_len 0 (length m.orders))
