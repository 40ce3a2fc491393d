use Rattle.slab_start.proofs.MadePlain.{made_is_plain}
use Rattle.slab_start.proofs.laws.made_mills_are_plain.Goals as goal

pub returns : goal.returns
returns c = made_is_plain
