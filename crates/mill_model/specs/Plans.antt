-- Plans, when they are legal, and what they cost.
use Rattle.std.specs.Prelude.{◌≡◌, ℕ, suc, ◌-◌, ◌<◌, ◌≤◌, Bool, true, false, cond, eqb, List, [], ◌∷◌, length, slice_index, slice_index_or}
use Rattle.std.specs.List.{sum_by, count_by, position_or_len}
use Rattle.mill_model.specs.declared.kind.Kind.{Kind}
use Rattle.mill_model.specs.declared.kind.Kind.TheVariants.{New, Old}
use Rattle.mill_model.specs.declared.sums.Sums.{Sums}
use Rattle.mill_model.specs.Mill.{Mill}
use Rattle.mill_model.specs.Columns.{Column, Fits, size_of, is_old}

pub record Plan : Type 0 where
  -- the slabs
  pub kinds : List Kind
  -- for each order, the number of its slab
  pub place : List ℕ

-- the places in a list, counted from first, that have the number k
abbrev pub places_of : ℕ → ℕ → List ℕ → List ℕ
places_of k first [] = []
places_of k first (x ∷ xs) = cond (eqb x k) (first ∷ places_of k (suc first) xs) (places_of k (suc first) xs)

-- slab k of a plan: its kind, and the orders that have it as their place
abbrev pub slab : Plan → ℕ → Column
slab p k = record { kind = slice_index_or p.kinds k (New 0); orders = places_of k 0 p.place }

pub record IsLegal (m : Mill) (p : Plan) : Type 0 where
  -- one place for each order, and each a slab
  pub places : length p.place ≡ length m.orders
  pub within : (o : ℕ) → o < length p.place → slice_index p.place o < length p.kinds
  pub fits : (k : ℕ) → k < length p.kinds → Fits m (slab p k)
  -- a surplus slab is used at most once
  pub once : (s : ℕ) → count_by (is_old s) p.kinds ≤ 1

abbrev pub is_new : Kind → Bool
is_new (New size) = true
is_new (Old s) = false

-- the steel that no order takes, and the number of new slabs
abbrev pub sums_of : Mill → Plan → Sums
sums_of m p = record {
  loss = sum_by (size_of m) p.kinds - sum_by (λ order. order.weight) m.orders;
  count = count_by is_new p.kinds;
}

-- some legal plan has these sums
abbrev pub IsAttained : Mill → Sums → Type 0
IsAttained m x = (p : Plan) × IsLegal m p × (sums_of m p ≡ x)

-- the least order on slab k
abbrev pub first_order : Plan → ℕ → ℕ
first_order p k = position_or_len (λ x. eqb x k) p.place

-- the slabs are numbered by their least order
abbrev pub IsInOrder : Plan → Type 0
IsInOrder p = (k : ℕ) → suc k < length p.kinds → first_order p k < first_order p (suc k)
