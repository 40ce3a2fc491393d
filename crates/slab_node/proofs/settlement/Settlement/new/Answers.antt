use Rattle.slab_node.proofs.SettledGroups.{are_grouped}
use Rattle.slab_node.proofs.settlement.Settlement.new.Goals as goal

pub kinds_of-requires : goal.kinds_of-requires
kinds_of-requires c =
    rw (c.deref.ensures.value, c.deref-2.ensures.value)
    (are_grouped c.args.node.now.mill.now c.args.node.now.decisions.now.list c.requires.consistent.0 c.requires.consistent.1 c.in_ok-heads.heads.items c.in_ok-slabs.slabs.items c.in_ok-heads.ensures.size c.in_ok-slabs.ensures.size c.in_ok-heads.ensures.firsts c.in_ok-slabs.ensures.slabs)

pub plan_by-requires-clause-heads : goal.plan_by-requires-clause-heads
plan_by-requires-clause-heads c =
    rw c.deref-3.ensures.value
    ((are_grouped c.args.node.now.mill.now c.args.node.now.decisions.now.list c.requires.consistent.0 c.requires.consistent.1 c.in_ok-heads.heads.items c.in_ok-slabs.slabs.items c.in_ok-heads.ensures.size c.in_ok-slabs.ensures.size c.in_ok-heads.ensures.firsts c.in_ok-slabs.ensures.slabs).grouping)
