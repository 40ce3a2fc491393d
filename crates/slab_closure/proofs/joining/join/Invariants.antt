use Rattle.std.specs.Prelude.{ℕ, if◌then◌else◌, nat_lt, ◌&&◌}
use Rattle.slab_closure.specs.Cells.{is_same}
use Rattle.slab_closure.specs.Changes.{HasBecome}
use Rattle.slab_closure.specs.Relations.{Table, relation_at}
use Rattle.slab_closure.proofs.joining.join.Given as goal

abbrev pub invariant-loop-x : goal.invariant-loop-x
invariant-loop-x l =
    let at : Table = relation_at l.initial.square in
    HasBecome l.initial.square l.square
    (λ (u v : ℕ). if nat_lt u l.x && is_same (at l.a u) then at l.a v else if nat_lt v l.x && is_same (at l.a v) then at l.a u else at u v)
