use Rattle.std.proofs.Common.{refl, sym}
use Rattle.mill_model.specs.Decisions.{answer_of}
use Rattle.mill_model.proofs.laws.plans_answer_once.Goals as goal

pub returns : goal.returns
returns c = λ p ask. (answer_of p ask, (refl, tt), λ _ h. sym h.0)
