-- The rules of the lines of a point's sums and of its slabs, and of the line that ends its plan.
use Rattle.std.specs.Prelude.{◌≡◌, ℕ, ◌<◌, ◌≤◌, ℤ, pos, ◌≤ℤ◌, true, false, List, [], ◌∷◌, map, length, slice_index_or, Option}
use Rattle.std.specs.List.{AllByRecursion, Contains, position_or_len, range_with_len, list_any}
use Rattle.mill_model.specs.declared.kind.Kind.{Kind}
use Rattle.mill_model.specs.declared.kind.Kind.TheVariants as kinds
use Rattle.mill_model.specs.declared.sums.Sums.{Sums}
use Rattle.mill_model.specs.Mill.{Mill}
use Rattle.mill_model.specs.Columns.{Column, Rises, has, load, colours_of, size_of, has_barred}
use Rattle.mill_model.specs.Judging.{is_among}
use Rattle.mill_model.specs.Plans.{Plan, sums_of}
use Rattle.mill_model.specs.Fronts.{Exceeds, FallsBelow}
use Rattle.cert_rules.specs.declared.why.Why.TheVariants as why
use Rattle.cert_rules.specs.Rules.{Rule, rule}
use Rattle.cert_rules.specs.Numbers.{index, natural, number_at, Names}

-- ---- `point L C`

abbrev pub sums_of_line : List ℤ → Sums
sums_of_line numbers = record { loss = natural (number_at numbers 0); count = natural (number_at numbers 1) }

-- a loss and a count that plans can have
abbrev pub AreSums : List ℤ → Type 0
AreSums (loss ∷ count ∷ []) = ((pos 0 ≤ℤ loss) × (loss ≤ℤ pos 2500000)) × ((pos 0 ≤ℤ count) × (count ≤ℤ pos 250))
AreSums numbers = ⊥

-- the loss is above that of the point before, and the count below its count
abbrev pub point_rules : Option Sums → List ℤ → List Rule
point_rules before numbers =
    let sums = sums_of_line numbers in
    rule why.Range (AreSums numbers) ∷ rule why.Order (Exceeds sums.loss before × FallsBelow sums.count before) ∷ []

-- ---- `new u o..` and `old s o..`

-- an order that lies on one of these slabs
abbrev pub IsPlaced : List Column → ℕ → Type 0
IsPlaced slabs o = list_any (λ (c : Column). has c.orders o) slabs ≡ true

abbrev pub orders_on : List ℤ → List ℕ
orders_on numbers = map index numbers

-- the orders are the mill's, they rise, none lies on an earlier slab, and the first is the least that lies on none
pub record ArePlaceable (m : Mill) (slabs : List Column) (numbers : List ℤ) : Type 0 where
  pub named : AllByRecursion (Names (length m.orders)) numbers
  pub rise : Rises 0 (length m.orders) (orders_on numbers)
  pub new : AllByRecursion (λ o. IsPlaced slabs o → ⊥) (orders_on numbers)
  pub least : (o : ℕ) → o < slice_index_or (orders_on numbers) 0 0 → IsPlaced slabs o

abbrev pub kinds_of : List Column → List Kind
kinds_of slabs = map (λ (c : Column). c.kind) slabs

-- the size is a listed one
abbrev pub IsListed : Mill → ℤ → Type 0
IsListed m u = (u ≡ pos (natural u)) × Contains m.sizes (natural u)

-- what the orders of a line weigh on a slab, and their colours
abbrev pub FitsLoad : Mill → Column → Type 0
FitsLoad m c = load m c.orders ≤ size_of m c.kind

abbrev pub HasFewColours : Mill → Column → Type 0
HasFewColours m c = colours_of m c.orders ≤ m.colour_limit

-- on a new slab, the numbers after the first are its orders
abbrev pub new_slab : List ℤ → Column
new_slab [] = record { kind = kinds.New 0; orders = [] }
new_slab (u ∷ numbers) = record { kind = kinds.New (natural u); orders = orders_on numbers }

abbrev pub new_rules : Mill → List Column → List ℤ → List Rule
new_rules m slabs [] = rule why.Spelling ⊥ ∷ []
new_rules m slabs (u ∷ numbers) =
    let c = new_slab (u ∷ numbers) in
    rule why.Size (IsListed m u) ∷ rule why.Place (ArePlaceable m slabs numbers) ∷ rule why.Load (FitsLoad m c) ∷ rule why.Colours (HasFewColours m c) ∷ []

abbrev pub old_slab : List ℤ → Column
old_slab [] = record { kind = kinds.Old 0; orders = [] }
old_slab (s ∷ numbers) = record { kind = kinds.Old (index s); orders = orders_on numbers }

abbrev pub old_rules : Mill → List Column → List ℤ → List Rule
old_rules m slabs [] = rule why.Spelling ⊥ ∷ []
old_rules m slabs (s ∷ numbers) =
    let c = old_slab (s ∷ numbers) in
    rule why.Yard (Names (length m.yard) s) ∷ rule why.Twice (is_among (kinds_of slabs) (kinds.Old (index s)) ≡ false)
    ∷ rule why.Place (ArePlaceable m slabs numbers) ∷ rule why.Load (FitsLoad m c) ∷ rule why.Colours (HasFewColours m c) ∷ rule why.Barred (has_barred m c ≡ false) ∷ []

-- ---- the first line of the tree

-- the plan of these slabs: each order lies on the first slab that has it
abbrev pub plan_of : ℕ → List Column → Plan
plan_of orders slabs = record { kinds = kinds_of slabs; place = map (λ o. position_or_len (λ (c : Column). has c.orders o) slabs) (range_with_len 0 orders) }

abbrev pub AreAllPlaced : Mill → List Column → Type 0
AreAllPlaced m slabs = (o : ℕ) → o < length m.orders → IsPlaced slabs o

-- before its own rules: each order is placed, and the sums are the point's
abbrev pub plan_rules : Mill → Sums → List Column → List Rule
plan_rules m sums slabs = rule why.Unplaced (AreAllPlaced m slabs) ∷ rule why.Sums (sums_of m (plan_of (length m.orders) slabs) ≡ sums) ∷ []
