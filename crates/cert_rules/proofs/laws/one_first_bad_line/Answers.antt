use Rattle.cert_rules.proofs.FirstBad.{one_first_bad_line}
use Rattle.cert_rules.proofs.laws.one_first_bad_line.Goals as goal

pub returns : goal.returns
returns c = one_first_bad_line
