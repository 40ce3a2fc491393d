use Rattle.std.proofs.Common.{◌≡◌, ℕ, ◌<◌, length}
use Rattle.slab_node.specs.Grouped.{slab_at}
use Rattle.slab_node.specs.Settled.{IsSlabOf}
use Rattle.slab_node.proofs.groups.slabs_of.Given as goal

abbrev pub invariant-loop-order : goal.invariant-loop-order
invariant-loop-order l = record {
  size : length l.slabs.items ≡ l.order;
  slabs : (o : ℕ) → o < l.order → IsSlabOf l.node.decisions.now.list (length l.node.mill.now.yard) o (slab_at l.slabs.items o);
}
