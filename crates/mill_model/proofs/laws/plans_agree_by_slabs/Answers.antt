use Rattle.mill_model.proofs.Slabs.{slabs_agree, plan_agrees}
use Rattle.mill_model.proofs.laws.plans_agree_by_slabs.Goals as goal

pub returns : goal.returns
returns c = λ m p decisions legal asks. (slabs_agree m p legal decisions asks, plan_agrees m p legal decisions asks)
