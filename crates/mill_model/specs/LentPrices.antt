-- Prices as they are lent.
use Rattle.mill_model.specs.declared.lent_prices.LentPrices.{LentPrices}
use Rattle.mill_model.specs.Prices.{Prices}

-- the prices that are lent
abbrev pub prices_lent : LentPrices → Prices
prices_lent lent = record { lambda = lent.lambda; mu = lent.mu; pi = lent.pi.now; sigma = lent.sigma.now }
