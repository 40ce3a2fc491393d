use Rattle.cert_rules.proofs.FirstBad.{one_reading}
use Rattle.cert_rules.proofs.laws.one_reading.Goals as goal

pub returns : goal.returns
returns c = one_reading
