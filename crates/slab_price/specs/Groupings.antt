-- Heads of groups, as what follows from decisions tells them.
use Rattle.std.specs.Prelude.{◌≡◌, ℕ, ◌<◌, ◌≤◌, true, List}
use Rattle.mill_model.specs.declared.ask.Ask.TheVariants.{Pair}
use Rattle.mill_model.specs.Columns.{Column, has}
use Rattle.mill_model.specs.Decisions.{Decision, column_agrees}
use Rattle.mill_model.specs.Assignments.{Follows}

-- each column that agrees has both orders or neither
abbrev pub AreAlike : List Decision → ℕ → ℕ → Type 0
AreAlike decisions first second = (c : Column) → column_agrees decisions c ≡ true → has c.orders first ≡ has c.orders second

-- the least order that lies with an order wherever the decisions hold
pub record IsHead (decisions : List Decision) (order head : ℕ) : Type 0 where
  pub before : head ≤ order
  pub together : head < order → Follows decisions (Pair head order) true
  pub least : (earlier : ℕ) → earlier < head → Follows decisions (Pair earlier order) true → ⊥
  pub alike : AreAlike decisions order head
