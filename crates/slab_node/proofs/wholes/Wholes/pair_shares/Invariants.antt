use Rattle.std.proofs.Common.{◌≡◌, ℕ, ◌*◌, ◌^◌, ◌<◌, ◌≤◌, length, get_or, take}
use Rattle.mill_model.specs.declared.ask.Ask.TheVariants.{Pair}
use Rattle.slab_relax.specs.PoolCovers.{parts_of}
use Rattle.slab_node.specs.Shares.{share}
use Rattle.slab_node.proofs.wholes.Wholes.pair_shares.Given as goal

abbrev pub invariant-loop-p : goal.invariant-loop-p
invariant-loop-p l = record {
  size : length l.shares ≡ length l.fn.shares;
  shares : (j : ℕ) → j < length l.fn.shares → get_or l.shares j 0 ≡ share (parts_of l.self.pool.now.columns (take l.p l.self.cover.now) (take l.p l.self.times.now)) (Pair l.order j);
  small : (j : ℕ) → j < length l.fn.shares → get_or l.shares j 0 ≤ l.p * 2 ^ 62;
}
