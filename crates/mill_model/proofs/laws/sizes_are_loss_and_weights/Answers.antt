use Rattle.std.proofs.Common.{arith}
use Rattle.mill_model.proofs.PlanCover.{weights_within_sizes}
use Rattle.mill_model.proofs.laws.sizes_are_loss_and_weights.Goals as goal

pub returns : goal.returns
returns c m p legal = omega (arith, weights_within_sizes m p legal)
