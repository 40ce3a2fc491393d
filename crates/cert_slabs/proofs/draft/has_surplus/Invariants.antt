use Rattle.std.proofs.Common.{◌≡◌, false, take}
use Rattle.std.specs.List.{list_any}
use Rattle.mill_model.specs.Columns.{is_old}
use Rattle.cert_slabs.proofs.draft.has_surplus.Given as goal

abbrev pub invariant-loop-kind : goal.invariant-loop-kind
invariant-loop-kind l = list_any (is_old l.slab) (take l.kind-index l.kinds) ≡ false
