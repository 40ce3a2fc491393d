use Rattle.cert_rules.proofs.Wholes.{lines_are_read}
use Rattle.cert_rules.proofs.laws.lines_are_read.Goals as goal

pub returns : goal.returns
returns c = lines_are_read
