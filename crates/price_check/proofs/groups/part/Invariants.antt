use Rattle.std.proofs.Common.{◌≡◌, ℕ, ◌<◌, get_or}
use Rattle.price_check.proofs.groups.part.Given as goal

abbrev pub invariant-loop-order : goal.invariant-loop-order
invariant-loop-order l = (o : ℕ) → o < l.order → get_or l.heads o 0 ≡ o
