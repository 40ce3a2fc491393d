-- A pricing problem, and what its columns exceed by.
use Rattle.std.specs.Prelude.{◌≡◌, ℤ, pos, ◌-ℤ◌, ◌*ℤ◌, ◌≤ℤ◌, true, List}
use Rattle.mill_model.specs.Mill.{Mill}
use Rattle.mill_model.specs.SignedSums.{total_by}
use Rattle.mill_model.specs.Columns.{Column, IsLegalColumn, loss_of}
use Rattle.mill_model.specs.Prices.{Prices, price_at, charge}
use Rattle.mill_model.specs.Decisions.{Decision, column_agrees}

-- the columns of a mill that branching decisions allow, at dual prices
pub record Problem : Type 0 where
  pub mill : Mill
  pub decisions : List Decision
  pub prices : Prices

-- what the orders are worth, less the price of the loss and the charge of the slab: the reduced cost with its sign turned
abbrev pub excess : Mill → Prices → Column → ℤ
excess m p c = (total_by (price_at p.pi) c.orders -ℤ p.lambda *ℤ pos (loss_of m c)) -ℤ charge p c.kind

-- a legal column that agrees with the decisions
pub record IsAllowed (q : Problem) (c : Column) : Type 0 where
  pub legal : IsLegalColumn q.mill c
  pub agrees : column_agrees q.decisions c ≡ true

-- each allowed column that is so has an excess of at most this
abbrev pub ExceedAtMost : Problem → ℤ → (Column → Type 0) → Type 0
ExceedAtMost q most IsSo = (c : Column) → IsAllowed q c → IsSo c → excess q.mill q.prices c ≤ℤ most
