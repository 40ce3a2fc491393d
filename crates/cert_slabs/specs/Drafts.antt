-- A plan while its slabs are read.
use Rattle.std.specs.Prelude.{◌≡◌, ℕ, ◌≤◌, ◌<◌, Bool, true, false, ◌||◌, List, length, slice_index_or}
use Rattle.std.specs.List.{AllByRecursion, list_any}
use Rattle.mill_model.specs.declared.kind.Kind.{Kind}
use Rattle.mill_model.specs.Mill.{Mill}
use Rattle.mill_model.specs.Columns.{Column, Rises, has}
use Rattle.cert_rules.specs.Slabs.{kinds_of}

pub record Draft : Type 0 where
  -- the slabs so far
  pub kinds : List Kind
  -- for each order, whether it lies on one of them
  pub placed : List Bool

-- the draft is of these slabs
pub record IsDraft (m : Mill) (slabs : List Column) (draft : Draft) : Type 0 where
  pub kinds : draft.kinds ≡ kinds_of slabs
  pub orders : length draft.placed ≡ length m.orders
  pub placed : (o : ℕ) → o < length m.orders → slice_index_or draft.placed o false ≡ list_any (λ (c : Column). has c.orders o) slabs

-- the least order that lies on none of the slabs is known, each slab has raised it, and there is room for a slab for each order
pub record IsOpenDraft (kinds : List Kind) (placed : List Bool) (next room : ℕ) : Type 0 where
  pub few : length placed ≤ 250
  pub within : next ≤ length placed
  pub below : (o : ℕ) → o < next → slice_index_or placed o false ≡ true
  pub free : next < length placed → slice_index_or placed next false ≡ false
  pub slabs : length kinds ≤ next
  pub room_fits : 250 ≤ room

-- the orders of the next slab: they rise, none lies on a slab, and the first is the least that lies on none
pub record AreNext (placed : List Bool) (orders : List ℕ) : Type 0 where
  pub some : 0 < length orders
  pub rise : Rises 0 (length placed) orders
  pub free : AllByRecursion (λ o. slice_index_or placed o false ≡ false) orders
  pub least : (o : ℕ) → o < slice_index_or orders 0 0 → slice_index_or placed o false ≡ true

-- these orders are placed, and no others
pub record ArePut (old new : List Bool) (orders : List ℕ) : Type 0 where
  pub length_stays : length new ≡ length old
  pub put : (o : ℕ) → o < length old → slice_index_or new o false ≡ (slice_index_or old o false || has orders o)

-- the least order from one on that isn't placed, or the number of orders
pub record IsNextFree (placed : List Bool) (from next : ℕ) : Type 0 where
  pub after : from ≤ next
  pub within : next ≤ length placed
  pub below : (o : ℕ) → from ≤ o → o < next → slice_index_or placed o false ≡ true
  pub free : next < length placed → slice_index_or placed next false ≡ false
