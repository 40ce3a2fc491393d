-- Orders, groups and columns of some colours.
use Rattle.std.specs.Prelude.{◌≡◌, ℕ, ◌<◌, ◌≤◌, true, List, ◌++◌, length}
use Rattle.mill_model.specs.Mill.{Mill}
use Rattle.mill_model.specs.Columns.{Column, has, order_at}
use Rattle.pricing_laws.specs.Groups.{head_of}
use Rattle.pricing_laws.specs.Parts.{AreDistinct, IsPart}

abbrev pub colour_at : Mill → ℕ → ℕ
colour_at m o = (order_at m o).colour

-- each order is of one of the colours
abbrev pub AreOf : Mill → List ℕ → List ℕ → Type 0
AreOf m colours orders = (o : ℕ) → has orders o ≡ true → has colours (colour_at m o) ≡ true

-- the head of a group all of whose orders are of the colours
pub record IsGroupOf (m : Mill) (heads colours : List ℕ) (head : ℕ) : Type 0 where
  pub inside : head < length m.orders
  pub own : head_of heads head ≡ head
  pub orders : (o : ℕ) → o < length m.orders → head_of heads o ≡ head → has colours (colour_at m o) ≡ true

-- the heads of all groups of the colours
pub record AreGroupsOf (m : Mill) (heads colours queue : List ℕ) : Type 0 where
  pub distinct : AreDistinct queue
  pub sound : (head : ℕ) → has queue head ≡ true → IsGroupOf m heads colours head
  pub all : (head : ℕ) → IsGroupOf m heads colours head → has queue head ≡ true

-- a column of the colours taken, and of at most so many of the rest
pub record IsOfSet (m : Mill) (taken rest : List ℕ) (left : ℕ) (c : Column) : Type 0 where
  pub more : List ℕ
  pub part : IsPart more rest
  pub few : length more ≤ left
  pub colours : AreOf m (taken ++ more) c.orders
