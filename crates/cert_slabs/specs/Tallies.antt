-- A spread while its shares are read: the sums over them.
use Rattle.std.specs.Prelude.{◌≡◌, ℕ, ◌+◌, ◌*◌, ◌<◌, ◌≤◌, ◌^◌, ℤ, pos, ◌≤ℤ◌, ◌+ℤ◌, Bool, true, false, cond, List, [], ◌∷◌, length, sum, slice_index, Option, Some, None}
use Rattle.mill_model.specs.declared.kind.Kind.{Kind}
use Rattle.mill_model.specs.declared.kind.Kind.TheVariants.{New, Old}
use Rattle.mill_model.specs.declared.limits.Limits.{Limits}
use Rattle.mill_model.specs.Mill.{Mill}
use Rattle.mill_model.specs.Columns.{has}
use Rattle.mill_model.specs.Shares.{Share}
use Rattle.cert_rules.specs.Spreads.{covered, used, lost, opened, OrdersWithin, SlabsWithin}

-- the denominator, and sums over the shares so far
pub record Tally : Type 0 where
  pub d : ℤ
  -- whether there is a share
  pub begun : Bool
  -- by order, and by surplus slab
  pub covered : List ℕ
  pub used : List ℕ
  -- the losses times multipliers, and the multipliers of new slabs
  pub lost : ℕ
  pub opened : ℕ

abbrev pub is_some_share : List Share → Bool
is_some_share [] = false
is_some_share (share ∷ shares) = true

-- the tally is of these shares
pub record IsTally (m : Mill) (d : ℤ) (shares : List Share) (tally : Tally) : Type 0 where
  pub d_is : tally.d ≡ d
  pub begun : tally.begun ≡ is_some_share shares
  pub covered_is : (o : ℕ) → o < length m.orders → slice_index tally.covered o ≡ covered o shares
  pub used_is : (s : ℕ) → s < length m.yard → slice_index tally.used s ≡ used s shares
  pub lost_is : tally.lost ≡ lost m shares
  pub opened_is : tally.opened ≡ opened shares

-- none is above this
abbrev pub AreWithin : ℕ → List ℕ → Type 0
AreWithin most sums = (i : ℕ) → i < length sums → slice_index sums i ≤ most

-- The sums can't overflow: each share covers an order, so that all multipliers sum to at most what covers all orders, which is at
-- most d for each of 250 orders, and a slab loses less than 2 ^ 16.
pub record IsTallied (d : ℕ) (covered used : List ℕ) (lost opened : ℕ) : Type 0 where
  pub few : length covered ≤ 250
  pub some : 1 ≤ d
  pub most : d ≤ 2 ^ 62
  pub orders : AreWithin d covered
  pub slabs : AreWithin d used
  pub lost_fits : lost ≤ 65535 * sum covered
  pub opened_fits : opened ≤ sum covered

-- each of these has this much more
pub record IsAdded (old new : List ℕ) (orders : List ℕ) (times : ℕ) : Type 0 where
  pub length_stays : length new ≡ length old
  pub added : (o : ℕ) → o < length old → slice_index new o ≡ slice_index old o + cond (has orders o) times 0

-- no order is covered too often, and where a share is of a surplus slab, none of these is used too often
abbrev pub StayWithin : Mill → ℕ → List Share → Kind → Type 0
StayWithin m d shares (New size) = OrdersWithin m d shares
StayWithin m d shares (Old s) = OrdersWithin m d shares × SlabsWithin m d shares

-- a limit is -1 or more, and not so great that its products overflow
abbrev pub IsFair : Option ℤ → Type 0
IsFair None = Unit {0}
IsFair (Some a) = (pos 0 ≤ℤ (a +ℤ pos 1)) × (a ≤ℤ pos (2 ^ 32))

pub record AreFair (limits : Limits) : Type 0 where
  pub loss : IsFair limits.loss
  pub count : IsFair limits.count
