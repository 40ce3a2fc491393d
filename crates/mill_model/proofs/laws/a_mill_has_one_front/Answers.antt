use Rattle.mill_model.proofs.Gap.{one_front}
use Rattle.mill_model.proofs.laws.a_mill_has_one_front.Goals as goal

pub returns : goal.returns
returns c = one_front
