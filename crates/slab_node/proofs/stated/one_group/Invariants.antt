use Rattle.slab_node.specs.Stated.{only}
use Rattle.slab_node.proofs.AtHeads.{AreAt}
use Rattle.slab_node.proofs.stated.one_group.Given as goal

abbrev pub invariant-loop-order : goal.invariant-loop-order
invariant-loop-order l = AreAt l.heads (only l.head) l.order l.pi.items
