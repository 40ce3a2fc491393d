use Rattle.std.proofs.Common.{◌≡◌, false, take}
use Rattle.std.specs.List.{list_any}
use Rattle.mill_model.specs.declared.kind.Kind.TheVariants.{Old}
use Rattle.mill_model.specs.Columns.{is_barred}
use Rattle.mill_model.specs.Plans.{places_of}
use Rattle.mill_model.proofs.judge.bars_an_order.Given as goal

abbrev pub invariant-loop-o : goal.invariant-loop-o
invariant-loop-o l = list_any (λ o. is_barred l.mill o (Old l.slab)) (places_of l.k 0 (take l.o l.place)) ≡ false
