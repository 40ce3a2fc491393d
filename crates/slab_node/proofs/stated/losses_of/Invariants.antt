use Rattle.slab_node.specs.Stated.{group_loss}
use Rattle.slab_node.proofs.AtHeads.{AreAt}
use Rattle.slab_node.proofs.stated.losses_of.Given as goal

abbrev pub invariant-loop-order : goal.invariant-loop-order
invariant-loop-order l = AreAt l.heads (group_loss l.mill l.heads l.kinds) l.order l.pi.items
