use Rattle.mill_model.proofs.MarkLaws.{cover_greater}
use Rattle.mill_model.proofs.laws.covers_serve_greater_limits.Goals as goal

pub returns : goal.returns
returns c = cover_greater
