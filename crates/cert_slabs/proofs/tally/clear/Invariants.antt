use Rattle.std.proofs.Common.{◌≡◌, ◌<◌, ℕ, get_or}
use Rattle.cert_slabs.proofs.tally.clear.Given as goal

abbrev pub invariant-loop-sum : goal.invariant-loop-sum
invariant-loop-sum l = (k : ℕ) → k < l.sum-index → get_or l.sums k 0 ≡ 0
