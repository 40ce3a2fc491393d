use Rattle.std.proofs.Common.{◌≡◌, false, take}
use Rattle.std.specs.List.{list_any}
use Rattle.mill_model.specs.Columns.{is_old as is_surplus}
use Rattle.slab_filling.specs.Placing.{kinds_of}
use Rattle.slab_filling.proofs.opening.is_open.Given as goal

abbrev pub invariant-loop-slab : goal.invariant-loop-slab
invariant-loop-slab l = list_any (is_surplus l.surplus) (kinds_of (take l.slab-index l.slabs)) ≡ false
