-- A column's nodes: its surplus slab and its orders.
use Rattle.std.specs.Prelude.{◌≡◌, ◌≢◌, ℕ, ◌-◌, ◌<◌, ◌≤◌, Bool, true, not, cond, if◌then◌else◌, nat_lt, ◌+◌, List, length, slice_index, All}
use Rattle.std.specs.List.{count_by}
use Rattle.mill_model.specs.declared.kind.Kind.{Kind}
use Rattle.mill_model.specs.declared.kind.Kind.TheVariants.{New, Old}
use Rattle.mill_model.specs.Columns.{Column, has, is_old, Rises}
use Rattle.slab_closure.specs.declared.relation.Relation.{Relation}
use Rattle.slab_closure.specs.declared.relation.Relation.TheVariants.{Open, Same, Apart}
use Rattle.slab_closure.specs.Cells.{is_same}
use Rattle.slab_closure.specs.Relations.{Table}

-- whether a node is the column's surplus slab or one of its orders
abbrev pub has_node : ℕ → Column → ℕ → Bool
has_node yard c x = if nat_lt x yard then is_old x c.kind else has c.orders (x - yard)

-- whether a node may be inside or not beside one of the column that it stands to so
abbrev pub suits : Relation → Bool → Bool
suits Open inside = true
suits Same inside = inside
suits Apart inside = not inside

-- each node suits one of the column's
abbrev pub IsRowWhole : ℕ → Table → (ℕ → Bool) → ℕ → Type 0
IsRowWhole n at inside x = (y : ℕ) → y < n → suits (at x y) (inside y) ≡ true

-- the column's nodes are whole groups, and no two of them are apart
abbrev pub IsWhole : ℕ → Table → (ℕ → Bool) → Type 0
IsWhole n at inside = (x : ℕ) → x < n → inside x ≡ true → IsRowWhole n at inside x

-- the same of the column's surplus slab, where it has one
abbrev pub IsSlabWhole : ℕ → Table → (ℕ → Bool) → Kind → Type 0
IsSlabWhole n at inside (New size) = Unit {0}
IsSlabWhole n at inside (Old s) = IsRowWhole n at inside s

-- and of each of its orders
abbrev pub AreOrdersWhole : ℕ → Table → (ℕ → Bool) → ℕ → List ℕ → Type 0
AreOrdersWhole n at inside yard orders = (k : ℕ) → k < length orders → IsRowWhole n at inside (yard + slice_index orders k)

abbrev pub IsSlabNode : ℕ → Kind → Type 0
IsSlabNode n (New size) = Unit {0}
IsSlabNode n (Old s) = s < n

-- the nodes of a column are among n: its surplus slab, if it has one, and its orders, which rise
pub record AreNodes (n yard : ℕ) (kind : Kind) (orders : List ℕ) : Type 0 where
  pub within : yard ≤ n
  pub limit : n ≤ 290
  pub slab : IsSlabNode yard kind
  pub rises : Rises 0 (n - yard) orders

-- the column's surplus slab isn't apart from a node
abbrev pub IsSlabBeside : Table → Kind → ℕ → Type 0
IsSlabBeside at (New size) x = Unit {0}
IsSlabBeside at (Old s) x = at x s ≢ Apart

-- nor is any of its orders
abbrev pub AreOrdersBeside : Table → ℕ → List ℕ → ℕ → Type 0
AreOrdersBeside at yard orders x = All (λ o. at x (yard + o) ≢ Apart) orders

-- how many of the column's slab and orders lie in the group of a node
abbrev pub slab_in_group : Table → Kind → ℕ → ℕ
slab_in_group at (New size) x = 0
slab_in_group at (Old s) x = cond (is_same (at x s)) 1 0

abbrev pub orders_in_group : Table → ℕ → List ℕ → ℕ → ℕ
orders_in_group at yard orders x = count_by (λ (o : ℕ). is_same (at x (yard + o))) orders
