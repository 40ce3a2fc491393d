use Rattle.std.proofs.Common.{◌≡◌, ◌≤◌, count_by, take}
use Rattle.mill_model.specs.Plans.{is_new}
use Rattle.mill_model.proofs.kind.Kind.count_new.Given as goal

abbrev pub invariant-loop-kind : goal.invariant-loop-kind
invariant-loop-kind l = record { so_far : l.count ≡ count_by is_new (take l.kind-index l.kinds); bounded : l.count ≤ l.kind-index }
