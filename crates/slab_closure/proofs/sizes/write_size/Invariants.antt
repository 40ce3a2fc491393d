use Rattle.std.specs.Prelude.{ℕ, ◌≡◌, if◌then◌else◌, nat_lt, ◌&&◌, slice_index}
use Rattle.slab_closure.specs.Cells.{is_same}
use Rattle.slab_closure.specs.Relations.{relation_at}
use Rattle.slab_closure.proofs.sizes.write_size.Given as goal

abbrev pub invariant-loop-x : goal.invariant-loop-x
invariant-loop-x l = (y : ℕ) → slice_index l.sizes y ≡ (if nat_lt y l.x && is_same (relation_at l.square l.a y) then l.size else slice_index l.initial.sizes y)
