use Rattle.std.proofs.Common.{None}
use Rattle.mill_model.proofs.Gap.{head_law}
use Rattle.mill_model.proofs.laws.good_heads_begin_the_front.Goals as goal

pub returns : goal.returns
returns c = λ m points last good. head_law m None points last good
