use Rattle.std.proofs.Common.{◌≡◌, take}
use Rattle.slab_relax.specs.Masters.{master_by, AreAllowedIds}
use Rattle.slab_relax.proofs.restricted.Restricted.new.Given as goal

abbrev pub invariant-loop-i : goal.invariant-loop-i
invariant-loop-i l = record {
  given : l.restricted.master ≡ master_by l.node.mill.now l.node.limits l.node.decisions.now.list (take l.i l.pool.columns);
  numbers : AreAllowedIds l.node.decisions.now.list (take l.i l.pool.columns) l.restricted.ids.items;
}
