use Rattle.std.proofs.Common.{◌<◌, ℕ, get_or}
use Rattle.mill_model.proofs.judge.judge_places.Given as goal

abbrev pub invariant-loop-order : goal.invariant-loop-order
invariant-loop-order l = (o : ℕ) → o < l.order → get_or l.plan.place o 0 < l.slabs
