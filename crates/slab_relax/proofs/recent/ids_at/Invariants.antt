use Rattle.std.proofs.Common.{ℕ}
use Rattle.slab_columns.specs.Recency.{AreBelow}
use Rattle.slab_relax.proofs.recent.ids_at.Given as goal

abbrev pub invariant-loop-place : goal.invariant-loop-place
invariant-loop-place l = (n : ℕ) → AreBelow n l.ids → AreBelow n l.there.items
