use Rattle.mill_model.proofs.Covering.{covered}
use Rattle.mill_model.proofs.laws.fronts_cover_attained_pairs.Goals as goal

pub returns : goal.returns
returns c = covered
