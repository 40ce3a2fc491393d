use Rattle.cert_rules.proofs.Verdicts.{ends_are_verdicts}
use Rattle.cert_rules.proofs.laws.ends_are_verdicts.Goals as goal

pub returns : goal.returns
returns c = ends_are_verdicts
