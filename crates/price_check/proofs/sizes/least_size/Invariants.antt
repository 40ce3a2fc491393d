use Rattle.std.proofs.Common.{take}
use Rattle.mill_model.specs.LeastSizes.{IsAnswer}
use Rattle.price_check.proofs.sizes.least_size.Given as goal

abbrev pub invariant-loop-size : goal.invariant-loop-size
invariant-loop-size l = IsAnswer (take l.size-index l.sizes) l.weight l.least
