use Rattle.std.proofs.Common.{◌≡◌, false, take}
use Rattle.std.specs.List.{list_any}
use Rattle.mill_model.specs.declared.kind.Kind.TheVariants.{Old}
use Rattle.mill_model.specs.Columns.{is_barred}
use Rattle.mill_model.proofs.mill.Mill.has_barred.Given as goal

abbrev pub invariant-loop-order : goal.invariant-loop-order
invariant-loop-order l = list_any (λ o. is_barred l.self o (Old l.slab)) (take l.order-index l.orders) ≡ false
