-- Columns that are worth more than they cost.
use Rattle.std.specs.Prelude.{◌≡◌, true, List}
use Rattle.mill_model.specs.Mill.{Mill}
use Rattle.mill_model.specs.Columns.{Column, IsLegalColumn, load}
use Rattle.mill_model.specs.LeastSizes.{IsOfLeastSize}
use Rattle.mill_model.specs.Decisions.{Decision, column_agrees}
use Rattle.mill_model.specs.Prices.{Prices, IsPriced}

-- a legal column that agrees with the decisions and is worth more than it costs, on no larger new slab than it needs
pub record IsExceeding (m : Mill) (decisions : List Decision) (p : Prices) (c : Column) : Type 0 where
  pub legal : IsLegalColumn m c
  pub agrees : column_agrees decisions c ≡ true
  pub exceeds : ¬ IsPriced m p c
  pub least : IsOfLeastSize m (load m c.orders) c.kind
