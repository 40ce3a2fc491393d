use Rattle.std.proofs.Common.{◌≡◌, ℕ, ◌<◌, length}
use Rattle.mill_model.specs.declared.ask.Ask.TheVariants.{Put}
use Rattle.slab_relax.specs.PoolCovers.{parts_of}
use Rattle.slab_node.specs.Shares.{IsFractional}
use Rattle.slab_node.proofs.wholes.Wholes.partial_put.Given as goal

abbrev pub invariant-loop-order : goal.invariant-loop-order
invariant-loop-order l = record {
  size : length l.shares.items ≡ length l.self.node.mill.now.yard;
  none : (o s : ℕ) → o < l.order → s < length l.self.node.mill.now.yard → IsFractional l.self.whole (parts_of l.self.pool.now.columns l.self.cover.now l.self.times.now) (Put o s) → ⊥;
}
