use Rattle.std.proofs.Common.{length, arith, None}
use Rattle.slab_node.specs.Settled.{IsSlabOf}
use Rattle.slab_node.proofs.Pushing.{each_push}
use Rattle.slab_node.proofs.groups.slabs_of.Goals as goal

pub loop-order-preserved : goal.loop-order-preserved
loop-order-preserved c = record {
  size = omega (arith, c.in_ok-push.ensures.len, c.loop-order.invariant.size);
  slabs = rw c.in_ok-push.ensures.items (each_push (IsSlabOf c.args.node.now.decisions.now.list (length c.args.node.now.mill.now.yard)) c.loop-order.slabs.items c.slab_of.result None c.loop-order.order c.loop-order.invariant.size c.loop-order.invariant.slabs c.slab_of.ensures);
}
