-- The column that exceeds most.
use Rattle.std.specs.Prelude.{◌≡◌, ℕ, ℤ, pos, ◌≤ℤ◌, ◌<ℤ◌, true, List, length}
use Rattle.mill_model.specs.Mill.{Mill, IsInLimits}
use Rattle.mill_model.specs.Columns.{Column, IsLegalColumn, load}
use Rattle.mill_model.specs.Prices.{Prices}
use Rattle.mill_model.specs.Decisions.{Decision, column_agrees}
use Rattle.mill_model.specs.LeastSizes.{IsOfLeastSize}
use Rattle.slab_decide.specs.Decided.{Decisions}
use Rattle.pricing_laws.specs.Problems.{excess}
use Rattle.slab_price.specs.Found.{Found}

-- each legal column that agrees with the decisions has an excess of at most this
abbrev pub IsGreatest : Mill → List Decision → Prices → ℤ → Type 0
IsGreatest m decisions p most = (c : Column) → IsLegalColumn m c → column_agrees decisions c ≡ true → excess m p c ≤ℤ most

abbrev pub column_of : Found → Column
column_of f = record { kind = f.kind; orders = f.orders }

-- a legal column that agrees with the decisions, with its excess, which is above 0
pub record IsFound (m : Mill) (decisions : List Decision) (p : Prices) (f : Found) : Type 0 where
  pub legal : IsLegalColumn m (column_of f)
  pub agrees : column_agrees decisions (column_of f) ≡ true
  pub excess_is : f.excess ≡ excess m p (column_of f)
  pub above : pos 0 <ℤ f.excess
  pub least_size : IsOfLeastSize m (load m f.orders) f.kind

-- the column found, and none exceeds more
pub record IsWorst (m : Mill) (decisions : List Decision) (p : Prices) (f : Found) : Type 0 where
  pub found : IsFound m decisions p f
  pub greatest : IsGreatest m decisions p f.excess

-- the sizes, the decisions and the prices are those of one mill
pub record BelongTogether (m : Mill) (listed : List ℕ) (decisions : Decisions) (p : Prices) : Type 0 where
  pub sizes : listed ≡ m.sizes
  pub orders : decisions.orders ≡ length m.orders
  pub yard : decisions.yard ≡ length m.yard
  pub pi : length p.pi ≡ length m.orders
  pub sigma : length p.sigma ≡ length m.yard

-- and loss costs something or nothing
pub record IsAsked (m : Mill) (listed : List ℕ) (decisions : Decisions) (p : Prices) : Type 0 where
  pub limits : IsInLimits m
  pub together : BelongTogether m listed decisions p
  pub sign : pos 0 ≤ℤ p.lambda
