use Rattle.std.proofs.Common.{subst}
use Rattle.mill_model.specs.Prices.{ArePrices}
use Rattle.price_check.proofs.Quotes.{ArePrices-from_quoted}
use Rattle.price_check.proofs.quote.Quote.sigma.Goals as goal

pub returns-clause-range : goal.returns-clause-range
returns-clause-range c = subst ArePrices c.self.view_is (ArePrices-from_quoted c.self.inside.orders c.self.inside.numbers.items c.self.invariant)
