use Rattle.std.proofs.Common.{◌≡◌, ◌<◌, ℕ}
use Rattle.std.specs.Prelude.{find, None}
use Rattle.mill_model.specs.Judging.{breaks, slab_rules}
use Rattle.mill_model.proofs.judge.judge_slabs.Given as goal

abbrev pub invariant-loop-k : goal.invariant-loop-k
invariant-loop-k l = (j : ℕ) → j < l.k → find (breaks l.mill l.plan) (slab_rules j) ≡ None
