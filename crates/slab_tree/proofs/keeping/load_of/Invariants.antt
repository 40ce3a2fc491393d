use Rattle.std.proofs.Common.{◌≡◌, ◌*◌, ◌≤◌, take}
use Rattle.mill_model.specs.Columns.{load}
use Rattle.slab_tree.proofs.keeping.load_of.Given as goal

abbrev pub invariant-loop-order : goal.invariant-loop-order
invariant-loop-order l = record {
  value : l.sum ≡ load l.mill (take l.order-index l.orders);
  small : l.sum ≤ l.order-index * 65535;
}
