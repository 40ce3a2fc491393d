-- What the test of a leaf asks for.
use Rattle.std.specs.Prelude.{◌≡◌, pos, ◌≤ℤ◌, length}
use Rattle.mill_model.specs.Mill.{Mill, IsInLimits}
use Rattle.mill_model.specs.Prices.{Prices}

-- there is a price for each order and each surplus slab, and loss costs something or nothing
pub record IsAsked (m : Mill) (p : Prices) : Type 0 where
  pub limits : IsInLimits m
  pub pi : length p.pi ≡ length m.orders
  pub sigma : length p.sigma ≡ length m.yard
  pub sign : pos 0 ≤ℤ p.lambda
