use Rattle.std.proofs.Common.{ℕ, ◌<◌, get_or}
use Rattle.slab_price.specs.Groupings.{IsHead}
use Rattle.slab_price.proofs.groups.find_heads.Given as goal

abbrev pub invariant-loop-order : goal.invariant-loop-order
invariant-loop-order l = (o : ℕ) → o < l.order → IsHead l.decisions.list o (get_or l.heads o 0)
