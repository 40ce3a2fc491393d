use Rattle.cert_rules.proofs.Wholes.{accepted_exactly}
use Rattle.cert_rules.proofs.laws.accepted_exactly.Goals as goal

pub returns : goal.returns
returns c = accepted_exactly
