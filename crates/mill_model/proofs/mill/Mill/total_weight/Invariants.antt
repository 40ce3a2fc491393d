use Rattle.std.proofs.Common.{◌≡◌, ◌≤◌, ◌*◌, sum_by, take}
use Rattle.mill_model.specs.declared.order.Order.{Order}
use Rattle.mill_model.proofs.mill.Mill.total_weight.Given as goal

abbrev pub invariant-loop-order : goal.invariant-loop-order
invariant-loop-order l = record { so_far : l.sum ≡ sum_by (λ (order : Order). order.weight) (take l.order-index l.orders); bounded : l.sum ≤ l.order-index * 10000 }
