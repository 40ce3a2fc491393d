use Rattle.std.proofs.Common.{ℕ}
use Rattle.slab_columns.specs.Recency.{AreBelow}
use Rattle.slab_columns.proofs.last_basic.take_new.Given as goal

abbrev pub invariant-loop-id : goal.invariant-loop-id
invariant-loop-id l = (n : ℕ) → AreBelow n l.ids → AreBelow n l.initial.list.items → AreBelow n l.list.items
