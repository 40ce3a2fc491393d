use Rattle.std.proofs.Common.{◌≡◌, ℕ, ◌+◌, ◌<◌, cond, length, get_or, take}
use Rattle.mill_model.specs.Columns.{has}
use Rattle.slab_node.proofs.wholes.add_at.Given as goal

abbrev pub invariant-loop-place : goal.invariant-loop-place
invariant-loop-place l = record {
  size : length l.sums ≡ length l.fn.sums;
  added : (j : ℕ) → j < length l.fn.sums → get_or l.sums j 0 ≡ get_or l.fn.sums j 0 + cond (has (take l.place-index l.places) j) l.amount 0;
}
