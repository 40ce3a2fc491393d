-- Orders that decisions join, in groups: each order has a head, which stands for its group.
use Rattle.std.specs.Prelude.{◌≡◌, ℕ, ◌+◌, ◌<◌, ◌≤◌, true, cond, eqb, List, [], ◌∷◌, length, slice_index_or}
use Rattle.mill_model.specs.Columns.{Column, has}
use Rattle.mill_model.specs.Decisions.{Decision, column_agrees}

abbrev pub head_of : List ℕ → ℕ → ℕ
head_of heads o = slice_index_or heads o 0

-- an order's head is no later one and its own head, and a column that agrees with the decisions has both or neither
pub record AreHeads (decisions : List Decision) (heads : List ℕ) : Type 0 where
  pub before : (o : ℕ) → o < length heads → head_of heads o ≤ o
  pub fixed : (o : ℕ) → o < length heads → head_of heads (head_of heads o) ≡ head_of heads o
  pub joined : (c : Column) → column_agrees decisions c ≡ true → (o : ℕ) → o < length heads → has c.orders o ≡ has c.orders (head_of heads o)

-- the orders, from a number on, whose heads are among some
abbrev pub members_from : ℕ → List ℕ → List ℕ → List ℕ
members_from o [] taken = []
members_from o (head ∷ heads) taken = cond (has taken head) (o ∷ members_from (o + 1) heads taken) (members_from (o + 1) heads taken)

-- the orders whose heads are among some
abbrev pub members : List ℕ → List ℕ → List ℕ
members heads taken = members_from 0 heads taken

-- those of some orders that are heads
abbrev pub heads_in : List ℕ → List ℕ → List ℕ
heads_in heads [] = []
heads_in heads (o ∷ orders) = cond (eqb (head_of heads o) o) (o ∷ heads_in heads orders) (heads_in heads orders)

-- no column that agrees has both orders
abbrev pub AreApart : List Decision → ℕ → ℕ → Type 0
AreApart decisions first second = (c : Column) → column_agrees decisions c ≡ true → has c.orders first ≡ true → has c.orders second ≡ true → ⊥

-- an order is apart from one of some others
abbrev pub IsApart : List Decision → List ℕ → ℕ → Type 0
IsApart decisions others order = (other : ℕ) × (has others other ≡ true) × AreApart decisions other order
