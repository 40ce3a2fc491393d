-- Orders in groups, each known by its first order and lying on one slab.
use Rattle.std.specs.Prelude.{◌≡◌, ℕ, ◌<◌, ◌≤◌, List, [], ◌∷◌, All, length, slice_index_or, Option, Some, None, IfSome}
use Rattle.mill_model.specs.declared.kind.Kind.{Kind}
use Rattle.mill_model.specs.declared.kind.Kind.TheVariants.{New, Old}
use Rattle.mill_model.specs.Mill.{Mill}
use Rattle.mill_model.specs.Columns.{Column, load}
use Rattle.pricing_laws.specs.Groups.{head_of, members}
use Rattle.mill_model.specs.LeastSizes.{IsLeastSize}

-- each order's head is no later one, and its own
pub record IsGrouping (heads : List ℕ) : Type 0 where
  pub before : (o : ℕ) → o < length heads → head_of heads o ≤ o
  pub fixed : (o : ℕ) → o < length heads → head_of heads (head_of heads o) ≡ head_of heads o

-- the surplus slab of a group, if it has one
abbrev pub slab_at : List (Option ℕ) → ℕ → Option ℕ
slab_at slabs head = slice_index_or slabs head None

-- the orders of a mill in groups, with the surplus slab of each, which no other group has
pub record AreGrouped (m : Mill) (heads : List ℕ) (slabs : List (Option ℕ)) : Type 0 where
  pub grouping : IsGrouping heads
  pub heads_size : length heads ≡ length m.orders
  pub slabs_size : length slabs ≡ length m.orders
  pub stock : All (λ slab. IfSome slab (λ s. s < length m.yard)) slabs
  pub once : (g h s : ℕ) → g < length m.orders → h < length m.orders → head_of heads g ≡ g → head_of heads h ≡ h → slab_at slabs g ≡ Some s → slab_at slabs h ≡ Some s → g ≡ h

-- ---- the slab of a group

abbrev pub slab_of : Kind → Option ℕ
slab_of (New size) = None
slab_of (Old s) = Some s

abbrev pub kind_at : List Kind → ℕ → Kind
kind_at kinds head = slice_index_or kinds head (New 0)

-- the orders of a group
abbrev pub group_of : List ℕ → ℕ → List ℕ
group_of heads head = members heads (head ∷ [])

-- the slab of a group as a column
abbrev pub group_column : List ℕ → List Kind → ℕ → Column
group_column heads kinds head = record { kind = kind_at kinds head; orders = group_of heads head }

-- a new slab, of the least size that holds the load, if any does
abbrev pub IsNewFor : Mill → ℕ → Kind → Type 0
IsNewFor m load (New size) = All (λ other. load ≤ other → IsLeastSize m.sizes load size) m.sizes
IsNewFor m load (Old s) = ⊥

-- the surplus slab, or else a new one for the load
abbrev pub IsKindFor : Mill → Option ℕ → ℕ → Kind → Type 0
IsKindFor m None weight kind = IsNewFor m weight kind
IsKindFor m (Some s) weight kind = kind ≡ Old s

-- the slab of each group
pub record AreKinds (m : Mill) (heads : List ℕ) (slabs : List (Option ℕ)) (kinds : List Kind) : Type 0 where
  pub size : length kinds ≡ length m.orders
  pub each : (head : ℕ) → head < length m.orders → IsKindFor m (slab_at slabs head) (load m (group_of heads head)) (kind_at kinds head)

-- a column has the orders of a group, and lies on the group's surplus slab, or is new where it has none
pub record IsOfGroup (heads : List ℕ) (slabs : List (Option ℕ)) (c : Column) (head : ℕ) : Type 0 where
  pub orders : c.orders ≡ group_of heads head
  pub slab : slab_of c.kind ≡ slab_at slabs head
