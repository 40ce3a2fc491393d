use Rattle.mill_model.proofs.Gap.{no_plan}
use Rattle.mill_model.proofs.laws.no_point_means_no_plan.Goals as goal

pub returns : goal.returns
returns c = λ m last p whole legal. no_plan m last whole p legal
