-- What settled decisions say of each order.
use Rattle.std.specs.Prelude.{ℕ, ◌<◌, ◌≤◌, true, false, List, length, Option, IfSome, IfNone}
use Rattle.mill_model.specs.declared.ask.Ask.TheVariants.{Pair, Put}
use Rattle.mill_model.specs.Decisions.{Decision}
use Rattle.mill_model.specs.Assignments.{Follows}
use Rattle.pricing_laws.specs.Groups.{head_of}
use Rattle.slab_node.specs.Grouped.{slab_at}

-- the first order that lies with this one
pub record IsFirst (decisions : List Decision) (order head : ℕ) : Type 0 where
  pub before : head ≤ order
  pub joined : head < order → Follows decisions (Pair head order) true
  pub apart : (earlier : ℕ) → earlier < head → Follows decisions (Pair earlier order) false

-- the surplus slab of so many on which an order lies, if it lies on one
pub record IsSlabOf (decisions : List Decision) (yard order : ℕ) (slab : Option ℕ) : Type 0 where
  pub within : IfSome slab (λ s. s < yard)
  pub on : IfSome slab (λ s. Follows decisions (Put order s) true)
  pub off : IfNone slab ((s : ℕ) → s < yard → Follows decisions (Put order s) false)

abbrev pub AreFirsts : List Decision → List ℕ → Type 0
AreFirsts decisions heads = (o : ℕ) → o < length heads → IsFirst decisions o (head_of heads o)

abbrev pub AreSlabs : List Decision → ℕ → List (Option ℕ) → Type 0
AreSlabs decisions yard slabs = (o : ℕ) → o < length slabs → IsSlabOf decisions yard o (slab_at slabs o)
