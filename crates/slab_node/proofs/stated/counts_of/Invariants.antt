use Rattle.slab_node.specs.Stated.{group_count}
use Rattle.slab_node.proofs.AtHeads.{AreAt}
use Rattle.slab_node.proofs.stated.counts_of.Given as goal

abbrev pub invariant-loop-order : goal.invariant-loop-order
invariant-loop-order l = AreAt l.heads (group_count l.kinds) l.order l.pi.items
