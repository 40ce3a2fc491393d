use Rattle.std.proofs.Common.{◌≡◌, take}
use Rattle.slab_tree.specs.Showing.{shares_of}
use Rattle.slab_tree.proofs.showing.shares_of.Given as goal

abbrev pub invariant-loop-index : goal.invariant-loop-index
invariant-loop-index l = l.shares.items ≡ shares_of l.pool.columns (take l.index l.parts) (take l.index l.times)
