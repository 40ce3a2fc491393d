use Rattle.slab_tariff.proofs.Touching.{each_ratio}
use Rattle.slab_tariff.proofs.laws.each_ratio_has_a_span.Goals as goal

pub returns : goal.returns
returns c = each_ratio
