use Rattle.std.proofs.Common.{◌≡◌, ℕ, ◌<◌, length}
use Rattle.mill_model.specs.declared.ask.Ask.TheVariants.{Pair}
use Rattle.slab_relax.specs.PoolCovers.{parts_of}
use Rattle.slab_node.specs.Shares.{IsFractional}
use Rattle.slab_node.proofs.wholes.Wholes.partial_pair.Given as goal

abbrev pub invariant-loop-i : goal.invariant-loop-i
invariant-loop-i l = record {
  size : length l.shares.items ≡ length l.self.node.mill.now.orders;
  none : (i j : ℕ) → i < l.i → i < j → j < length l.self.node.mill.now.orders → IsFractional l.self.whole (parts_of l.self.pool.now.columns l.self.cover.now l.self.times.now) (Pair i j) → ⊥;
}
