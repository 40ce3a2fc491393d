use Rattle.std.specs.Prelude.{ℕ, if◌then◌else◌, nat_eq, nat_lt, ◌&&◌}
use Rattle.slab_closure.specs.Cells.{joined_of}
use Rattle.slab_closure.specs.Changes.{HasBecome}
use Rattle.slab_closure.specs.Relations.{Table, relation_at}
use Rattle.slab_closure.proofs.joining.join_row.Given as goal

abbrev pub invariant-loop-y : goal.invariant-loop-y
invariant-loop-y l =
    let at : Table = relation_at l.initial.square in
    HasBecome l.initial.square l.square (λ (u v : ℕ). if nat_eq u l.a && nat_lt v l.y then joined_of (at l.a v) (at l.b v) else at u v)
