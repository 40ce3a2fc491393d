use Rattle.cert_rules.proofs.Standing.{failures_stay, running_is_no_failure}
use Rattle.cert_rules.proofs.laws.failures_are_exact.Goals as goal

pub returns-clause-stay : goal.returns-clause-stay
returns-clause-stay c = failures_stay

pub returns-clause-running : goal.returns-clause-running
returns-clause-running c = running_is_no_failure
