use Rattle.mill_model.proofs.PlanCover.{refuted}
use Rattle.mill_model.proofs.laws.prices_exclude_plans.Goals as goal

pub returns : goal.returns
returns c = refuted
