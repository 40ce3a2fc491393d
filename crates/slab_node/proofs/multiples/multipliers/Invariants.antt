use Rattle.std.proofs.Common.{◌≡◌, take}
use Rattle.slab_relax.specs.PoolCovers.{multipliers}
use Rattle.slab_node.proofs.multiples.multipliers.Given as goal

abbrev pub invariant-loop-part : goal.invariant-loop-part
invariant-loop-part l = l.list.items ≡ multipliers (take l.part-index l.cover)
