use Rattle.cert_rules.proofs.Verdicts.{verdicts_hold}
use Rattle.cert_rules.proofs.laws.verdicts_hold.Goals as goal

pub returns : goal.returns
returns c = verdicts_hold
