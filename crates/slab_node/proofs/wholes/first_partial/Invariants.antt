use Rattle.std.proofs.Common.{ℕ, ◌<◌, ◌≤◌, get_or}
use Rattle.slab_node.proofs.wholes.first_partial.Given as goal

abbrev pub invariant-loop-j : goal.invariant-loop-j
invariant-loop-j l = (k : ℕ) → l.from ≤ k → k < l.j → 0 < get_or l.sums k 0 → get_or l.sums k 0 < l.whole → ⊥
