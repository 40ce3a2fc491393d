use Rattle.mill_model.proofs.Agreement.{plan_follows}
use Rattle.mill_model.proofs.laws.plans_agree_with_what_follows.Goals as goal

pub returns : goal.returns
returns c = λ m p decisions ask b legal. plan_follows m p legal decisions ask b
