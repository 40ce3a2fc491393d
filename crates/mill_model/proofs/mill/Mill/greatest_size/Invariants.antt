use Rattle.std.proofs.Common.{◌≡◌, ◌≤◌, max, take}
use Rattle.std.specs.List.{fold}
use Rattle.mill_model.proofs.mill.Mill.greatest_size.Given as goal

abbrev pub invariant-loop-size : goal.invariant-loop-size
invariant-loop-size l = record { value : l.greatest ≡ fold max 0 (take l.size-index l.sizes); small : l.greatest ≤ 10000 }
