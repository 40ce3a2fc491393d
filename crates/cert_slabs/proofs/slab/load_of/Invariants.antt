use Rattle.std.proofs.Common.{◌≡◌, ◌≤◌, ◌*◌, take}
use Rattle.mill_model.specs.Columns.{load}
use Rattle.cert_slabs.proofs.slab.load_of.Given as goal

abbrev pub invariant-loop-order : goal.invariant-loop-order
invariant-loop-order l = record { so_far : l.sum ≡ load l.mill (take l.order-index l.orders); bounded : l.sum ≤ l.order-index * 65535 }
