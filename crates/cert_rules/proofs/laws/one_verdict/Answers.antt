use Rattle.cert_rules.proofs.Verdicts.{one_verdict}
use Rattle.cert_rules.proofs.laws.one_verdict.Goals as goal

pub returns : goal.returns
returns c = one_verdict
