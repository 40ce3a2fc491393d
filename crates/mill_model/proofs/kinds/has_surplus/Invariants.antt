use Rattle.std.proofs.Common.{◌≡◌, false, take}
use Rattle.std.specs.List.{list_any}
use Rattle.mill_model.specs.Columns.{is_old as is_surplus}
use Rattle.mill_model.proofs.kinds.has_surplus.Given as goal

abbrev pub invariant-loop-kind : goal.invariant-loop-kind
invariant-loop-kind l = list_any (is_surplus l.slab) (take l.kind-index l.kinds) ≡ false
