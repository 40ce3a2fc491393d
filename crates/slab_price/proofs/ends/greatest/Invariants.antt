use Rattle.std.proofs.Common.{ℕ, ◌<◌, ◌≤◌, get_or}
use Rattle.slab_price.proofs.ends.greatest.Given as goal

abbrev pub invariant-loop-size : goal.invariant-loop-size
invariant-loop-size l = record {
  all : (k : ℕ) → k < l.size-index → get_or l.sizes k 0 ≤ l.most;
  first : l.fn.first ≤ l.most;
  within : l.most ≤ 10000;
}
