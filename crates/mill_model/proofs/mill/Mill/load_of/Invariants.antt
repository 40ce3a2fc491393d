use Rattle.std.proofs.Common.{◌≡◌, ◌≤◌, ◌*◌, ◌-◌, ◌^◌, min, take}
use Rattle.mill_model.specs.Columns.{load}
use Rattle.mill_model.proofs.mill.Mill.load_of.Given as goal

abbrev pub invariant-loop-order : goal.invariant-loop-order
invariant-loop-order l = record {
  capped : l.sum ≡ min (load l.self (take l.order-index l.orders)) (2 ^ 32 - 1);
  bounded : load l.self (take l.order-index l.orders) ≤ l.order-index * 10000;
}
