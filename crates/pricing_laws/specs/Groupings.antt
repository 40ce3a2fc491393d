-- The orders of a mill in groups that move as one, with what each group weighs and gains.
use Rattle.std.specs.Prelude.{◌≡◌, ℕ, ◌*◌, ◌^◌, ◌<◌, ◌≤◌, ℤ, pos, unsigned_abs, List, [], ◌∷◌, length, slice_index_or}
use Rattle.mill_model.specs.Mill.{Mill, most_orders, most_weight}
use Rattle.mill_model.specs.Columns.{load}
use Rattle.mill_model.specs.Decisions.{Decision}
use Rattle.pricing_laws.specs.Groups.{AreHeads, members}
use Rattle.mill_model.specs.Prices.{Prices}
use Rattle.pricing_laws.specs.Gains.{gains_of}

-- for each order its head; for each head, what its group weighs and gains
pub record Groups : Type 0 where
  pub heads : List ℕ
  pub weights : List ℕ
  pub gains : List ℤ

abbrev pub weight_at : Groups → ℕ → ℕ
weight_at g head = slice_index_or g.weights head 0

abbrev pub gain_at : Groups → ℕ → ℤ
gain_at g head = slice_index_or g.gains head (pos 0)

-- there is room for so many orders
pub record HasRoom (orders : ℕ) (g : Groups) : Type 0 where
  pub heads : length g.heads ≡ orders
  pub weights : length g.weights ≡ orders
  pub gains : length g.gains ≡ orders

-- an order's head is no later one
abbrev pub AreBefore : List ℕ → Type 0
AreBefore heads = (o : ℕ) → o < length heads → slice_index_or heads o 0 ≤ o

-- what each group weighs alone
pub record AreWeights (m : Mill) (heads : List ℕ) (weights : List ℕ) : Type 0 where
  pub size : length weights ≡ length heads
  pub weight : (head : ℕ) → head < length heads → slice_index_or weights head 0 ≡ load m (members heads (head ∷ []))
  pub light : (head : ℕ) → head < length heads → slice_index_or weights head 0 ≤ most_orders * most_weight

-- what each group gains alone
pub record AreGains (m : Mill) (p : Prices) (heads : List ℕ) (gains : List ℤ) : Type 0 where
  pub size : length gains ≡ length heads
  pub gain : (head : ℕ) → head < length heads → slice_index_or gains head (pos 0) ≡ gains_of m p (members heads (head ∷ []))
  pub small : (head : ℕ) → head < length heads → unsigned_abs (slice_index_or gains head (pos 0)) ≤ most_orders * 2 ^ 76

-- the groups that the decisions join, weighed and priced
pub record AreGroups (m : Mill) (decisions : List Decision) (p : Prices) (g : Groups) : Type 0 where
  pub room : HasRoom (length m.orders) g
  pub heads : AreHeads decisions g.heads
  pub weights : AreWeights m g.heads g.weights
  pub gains : AreGains m p g.heads g.gains
