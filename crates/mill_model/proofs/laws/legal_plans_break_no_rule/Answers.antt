use Rattle.mill_model.proofs.Rules.{legal_from_none, rules_of_legal}
use Rattle.mill_model.proofs.laws.legal_plans_break_no_rule.Goals as goal

pub returns : goal.returns
returns c m p = (legal_from_none m p, rules_of_legal m p)
