use Rattle.front_check.proofs.Once.{one_answer}
use Rattle.front_check.proofs.laws.one_answer.Goals as goal

pub returns : goal.returns
returns c = one_answer
