use Rattle.mill_model.proofs.Gap.{gap_law}
use Rattle.mill_model.proofs.laws.whole_certificates_give_the_front.Goals as goal

pub returns : goal.returns
returns c = gap_law
