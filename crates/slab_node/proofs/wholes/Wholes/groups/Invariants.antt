use Rattle.std.proofs.Common.{◌≡◌, ℕ, ◌<◌, length}
use Rattle.pricing_laws.specs.Groups.{head_of}
use Rattle.slab_relax.specs.PoolCovers.{parts_of}
use Rattle.slab_node.specs.Grouped.{slab_at}
use Rattle.slab_node.specs.Taken.{IsTaken}
use Rattle.slab_node.proofs.wholes.Wholes.groups.Given as goal

abbrev pub invariant-loop-order : goal.invariant-loop-order
invariant-loop-order l = record {
  heads_size : length l.heads.items ≡ l.order;
  slabs_size : length l.slabs.items ≡ l.order;
  each : (o : ℕ) → o < l.order → IsTaken (parts_of l.self.pool.now.columns l.self.cover.now l.self.times.now) o (head_of l.heads.items o) (slab_at l.slabs.items o);
}
