use Rattle.mill_model.proofs.Rules.{legal_from_none, illegal_from_some}
use Rattle.mill_model.proofs.plan.Plan.judge.Goals as goal

pub sums-requires : goal.sums-requires
sums-requires c = legal_from_none c.args.mill.now c.args.self.now c.in-Ok.ensures

pub returns-in-Ok-clause-legal : goal.returns-in-Ok-clause-legal
returns-in-Ok-clause-legal c = (legal_from_none c.args.mill.now c.args.self.now c.in-Ok.ensures, c.sums.ensures)

pub returns-in-Err-clause-illegal : goal.returns-in-Err-clause-illegal
returns-in-Err-clause-illegal c = illegal_from_some c.args.mill.now c.args.self.now c.in-Err.rule c.in-Err.ensures
