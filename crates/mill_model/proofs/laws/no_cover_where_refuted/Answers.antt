use Rattle.mill_model.proofs.Duality.{no_cover_and_prices}
use Rattle.mill_model.proofs.laws.no_cover_where_refuted.Goals as goal

pub returns : goal.returns
returns c = no_cover_and_prices
