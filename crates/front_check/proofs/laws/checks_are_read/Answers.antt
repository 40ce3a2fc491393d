use Rattle.front_check.proofs.Grammar.{checks_are_read}
use Rattle.front_check.proofs.laws.checks_are_read.Goals as goal

pub returns : goal.returns
returns c = checks_are_read
