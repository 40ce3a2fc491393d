use Rattle.std.proofs.Common.{◌≡◌, ◌≤◌, ◌*◌, sum_by, take}
use Rattle.mill_model.specs.Columns.{size_of as size_of_kind}
use Rattle.mill_model.proofs.mill.Mill.total_size.Given as goal

abbrev pub invariant-loop-kind : goal.invariant-loop-kind
invariant-loop-kind l = record { so_far : l.sum ≡ sum_by (size_of_kind l.self) (take l.kind-index l.kinds); bounded : l.sum ≤ l.kind-index * 65535 }
