use Rattle.std.proofs.Common.{◌≡◌, ◌++◌, ◌+◌, ◌≤◌, ◌<◌, length, vec_len}
use Rattle.std.specs.List.{All}
use Rattle.std.specs.Vec.{vec_capacity}
use Rattle.std.specs.Vec.Iter.{into_iter_items, into_iter_len}
use Rattle.slab_desk.specs.MemFile.{entries, HasRoom}
use Rattle.slab_desk.specs.Start.{listed}
use Rattle.slab_desk.proofs.mem_desk.keep.Given as goal

abbrev pub invariant-loop-name : goal.invariant-loop-name
invariant-loop-name l = record {
  kept : entries l.kept.items ++ listed (into_iter_items l.name-iterator) ≡ listed l.fn.files.items;
  room : All (HasRoom l.room) l.kept.items;
  rest : All (λ file. length file.1.items ≤ l.room) (into_iter_items l.name-iterator);
  place : vec_len l.kept + into_iter_len l.name-iterator < vec_capacity l.kept;
}
