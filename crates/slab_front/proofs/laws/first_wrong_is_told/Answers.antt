use Rattle.slab_front.proofs.Grammar.{first_wrong_is_told}
use Rattle.slab_front.proofs.laws.first_wrong_is_told.Goals as goal

pub returns : goal.returns
returns c = first_wrong_is_told
