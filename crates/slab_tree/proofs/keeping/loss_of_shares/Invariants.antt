use Rattle.std.proofs.Common.{◌≡◌, ◌*◌, ◌^◌, ◌≤◌, take, map, pos, unsigned_abs}
use Rattle.mill_model.specs.Shares.{part_of}
use Rattle.slab_relax.specs.PoolCovers.{loss_by}
use Rattle.slab_tree.proofs.keeping.loss_of_shares.Given as goal

abbrev pub invariant-loop-share : goal.invariant-loop-share
invariant-loop-share l = record {
  value : l.total ≡ pos (loss_by l.mill (map part_of (take l.share-index l.shares)));
  small : unsigned_abs l.total ≤ l.share-index * 2 ^ 80;
}
