use Rattle.std.proofs.Common.{◌≡◌, ℕ, ◌<◌, length}
use Rattle.mill_model.specs.Columns.{load}
use Rattle.slab_node.specs.Grouped.{IsKindFor, slab_at, kind_at, group_of}
use Rattle.slab_node.proofs.kinds.kinds_of.Given as goal

abbrev pub invariant-loop-head : goal.invariant-loop-head
invariant-loop-head l = record {
  size : length l.kinds.items ≡ l.head;
  each : (o : ℕ) → o < l.head → IsKindFor l.node.mill.now (slab_at l.slabs o) (load l.node.mill.now (group_of l.heads o)) (kind_at l.kinds.items o);
}
