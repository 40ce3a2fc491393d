-- Dual prices, and what they refute.
use Rattle.std.specs.Prelude.{◌≡◌, ℕ, ◌+◌, ◌-◌, ◌^◌, ℤ, pos, negsuc, ◌+ℤ◌, ◌*ℤ◌, ◌≤ℤ◌, ◌<ℤ◌, true, List, take, drop, length, slice_index_or, IfNone}
use Rattle.std.specs.List.{All}
use Rattle.mill_model.specs.declared.kind.Kind.{Kind}
use Rattle.mill_model.specs.declared.kind.Kind.TheVariants.{New, Old}
use Rattle.mill_model.specs.declared.limits.Limits.{Limits}
use Rattle.mill_model.specs.Mill.{Mill}
use Rattle.mill_model.specs.Limits.{number_of}
use Rattle.mill_model.specs.SignedSums.{total_by}
use Rattle.mill_model.specs.Columns.{Column, IsLegalColumn, loss_of}
use Rattle.mill_model.specs.Decisions.{Decision, column_agrees}

pub record Prices : Type 0 where
  -- the price of one unit of loss, and of one new slab
  pub lambda : ℤ
  pub mu : ℤ
  -- what each order is worth
  pub pi : List ℤ
  -- the price of each surplus slab
  pub sigma : List ℤ

-- the greatest price
abbrev pub most_price : ℕ
most_price = 2 ^ 62

-- a price is at most the greatest in absolute value
abbrev pub IsPrice : ℤ → Type 0
IsPrice q = (negsuc (most_price - 1) ≤ℤ q) × (q ≤ℤ pos most_price)

pub record ArePrices (p : Prices) : Type 0 where
  pub lambda : IsPrice p.lambda
  pub mu : IsPrice p.mu
  pub pi : All IsPrice p.pi
  pub sigma : All IsPrice p.sigma

abbrev pub price_at : List ℤ → ℕ → ℤ
price_at prices i = slice_index_or prices i (pos 0)

-- what a slab costs at the prices, beside its loss
abbrev pub charge : Prices → Kind → ℤ
charge p (New size) = p.mu
charge p (Old s) = price_at p.sigma s

-- a column's reduced cost isn't negative: its orders are worth at most what it costs
pub record IsPriced (m : Mill) (p : Prices) (c : Column) : Type 0 where
  pub priced : total_by (price_at p.pi) c.orders ≤ℤ (p.lambda *ℤ pos (loss_of m c) +ℤ charge p c.kind)

-- the prices of loss, of a new slab and of the surplus slabs aren't negative
abbrev pub HasSigns : Prices → Type 0
HasSigns p = (pos 0 ≤ℤ p.lambda) × (pos 0 ≤ℤ p.mu) × All (λ q. pos 0 ≤ℤ q) p.sigma

-- the price of a missing limit is 0
abbrev pub HasLimits : Limits → Prices → Type 0
HasLimits limits p = IfNone limits.loss (p.lambda ≡ pos 0) × IfNone limits.count (p.mu ≡ pos 0)

-- the orders are worth more than any slabs within the limits cost
abbrev pub IsWorth : Limits → Prices → Type 0
IsWorth limits p =
    (p.lambda *ℤ number_of limits.loss +ℤ p.mu *ℤ number_of limits.count +ℤ total_by (λ q. q) p.sigma)
    <ℤ total_by (λ q. q) p.pi

-- no legal column that agrees with the decisions is worth more than it costs
abbrev pub NoneExceeds : Mill → List Decision → Prices → Type 0
NoneExceeds m decisions p = (c : Column) → IsLegalColumn m c → column_agrees decisions c ≡ true → IsPriced m p c

-- Farkas prices, dual prices that no fractional cover within the limits can pay: a certificate that no plan that agrees is within the limits.
pub record Refutes (m : Mill) (limits : Limits) (decisions : List Decision) (p : Prices) : Type 0 where
  pub range : ArePrices p
  pub pi_length : length p.pi ≡ length m.orders
  pub sigma_length : length p.sigma ≡ length m.yard
  pub lambda_sign : pos 0 ≤ℤ p.lambda
  pub mu_sign : pos 0 ≤ℤ p.mu
  pub sigma_sign : All (λ q. pos 0 ≤ℤ q) p.sigma
  pub lambda_missing : IfNone limits.loss (p.lambda ≡ pos 0)
  pub mu_missing : IfNone limits.count (p.mu ≡ pos 0)
  pub columns : NoneExceeds m decisions p
  pub worth : IsWorth limits p

-- there is one number for each price
abbrev pub HasCount : Mill → List ℤ → Type 0
HasCount m numbers = length numbers ≡ 2 + length m.orders + length m.yard

-- numbers read as prices: of loss, of a new slab, one for each of so many orders, and the rest for the surplus slabs
abbrev pub prices_of : ℕ → List ℤ → Prices
prices_of orders numbers = record {
  lambda = slice_index_or numbers 0 (pos 0);
  mu = slice_index_or numbers 1 (pos 0);
  pi = take orders (drop 2 numbers);
  sigma = drop (2 + orders) numbers;
}
