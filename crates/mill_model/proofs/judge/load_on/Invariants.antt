use Rattle.std.proofs.Common.{◌≡◌, ◌≤◌, ◌*◌, take}
use Rattle.mill_model.specs.Columns.{load as load_of}
use Rattle.mill_model.specs.Plans.{places_of}
use Rattle.mill_model.proofs.judge.load_on.Given as goal

abbrev pub invariant-loop-o : goal.invariant-loop-o
invariant-loop-o l = record { so_far : l.sum ≡ load_of l.mill (places_of l.k 0 (take l.o l.place)); bounded : l.sum ≤ l.o * 65535 }
