-- The orders that numbers name.
use Rattle.std.specs.Prelude.{◌≡◌, ℕ, ◌≤◌, ℤ, List}
use Rattle.std.specs.List.{AllByRecursion}
use Rattle.mill_model.specs.Columns.{Rises}
use Rattle.cert_rules.specs.Numbers.{Names}
use Rattle.cert_rules.specs.Slabs.{orders_on}

-- there is room for the numbers of any line, and for the orders among them
pub record HasRoom (numbers orders : ℕ) : Type 0 where
  pub numbers_fit : numbers ≡ 252
  pub orders_fit : 250 ≤ orders

-- each number names one of so many orders, and these rise from low on
pub record AreListed (count low : ℕ) (numbers : List ℤ) : Type 0 where
  pub named : AllByRecursion (Names count) numbers
  pub rise : Rises low count (orders_on numbers)
