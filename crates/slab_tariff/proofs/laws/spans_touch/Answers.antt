use Rattle.slab_tariff.proofs.Touching.{spans_run}
use Rattle.slab_tariff.proofs.laws.spans_touch.Goals as goal

pub returns : goal.returns
returns c = spans_run
