use Rattle.mill_model.proofs.MarkLaws.{shown_excludes_prices}
use Rattle.mill_model.proofs.laws.shown_covers_exclude_prices.Goals as goal

pub returns : goal.returns
returns c = shown_excludes_prices
