-- The least of some sizes that holds a load.
use Rattle.std.specs.Prelude.{ℕ, ◌≤◌, ◌<◌, List, All, Contains, Option, IfSome, IfNone}
use Rattle.mill_model.specs.declared.kind.Kind.{Kind}
use Rattle.mill_model.specs.declared.kind.Kind.TheVariants.{New, Old}
use Rattle.mill_model.specs.Mill.{Mill}

-- the least of the sizes that is at least the load
pub record IsLeastSize (sizes : List ℕ) (load size : ℕ) : Type 0 where
  pub listed : Contains sizes size
  pub holds : load ≤ size
  pub least : All (λ other. load ≤ other → size ≤ other) sizes

-- the least size, where there is one
pub record IsAnswer (sizes : List ℕ) (load : ℕ) (found : Option ℕ) : Type 0 where
  pub some : IfSome found (IsLeastSize sizes load)
  pub none : IfNone found (All (λ size. size < load) sizes)

-- a new slab is of the least size that holds the load
abbrev pub IsOfLeastSize : Mill → ℕ → Kind → Type 0
IsOfLeastSize m load (New size) = IsLeastSize m.sizes load size
IsOfLeastSize m load (Old s) = Unit {0}
