use Rattle.std.proofs.Common.{◌≡◌, ◌++◌, map, not}
use Rattle.std.specs.List.{filter, range_with_len, list_any}
use Rattle.mill_model.specs.declared.kind.Kind.TheVariants.{Old}
use Rattle.mill_model.specs.Columns.{is_old}
use Rattle.slab_filling.specs.Placing.{kinds_of}
use Rattle.slab_lns.specs.Options.{ways_to_open}
use Rattle.slab_lns.proofs.ways.add_surplus.Given as goal

abbrev pub invariant-loop-s : goal.invariant-loop-s
invariant-loop-s l = l.ways.items ≡ l.initial.ways.items ++ ways_to_open l.mill l.order (map Old (filter (λ s. not (list_any (is_old s) (kinds_of l.slabs))) (range_with_len 0 l.s)))
