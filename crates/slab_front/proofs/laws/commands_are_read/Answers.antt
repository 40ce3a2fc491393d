use Rattle.slab_front.proofs.Grammar.{commands_are_read}
use Rattle.slab_front.proofs.laws.commands_are_read.Goals as goal

pub returns : goal.returns
returns c = commands_are_read
