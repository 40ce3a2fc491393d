use Rattle.std.specs.Prelude.{ℕ, if◌then◌else◌, nat_eq, nat_lt, ◌&&◌}
use Rattle.slab_closure.specs.Changes.{HasBecome}
use Rattle.slab_closure.specs.Relations.{Table, relation_at}
use Rattle.slab_closure.proofs.joining.copy_node.Given as goal

abbrev pub invariant-loop-y : goal.invariant-loop-y
invariant-loop-y l =
    let at : Table = relation_at l.initial.square in
    HasBecome l.initial.square l.square
    (λ (u v : ℕ). if nat_eq u l.x && nat_lt v l.y then at l.a v else if nat_eq v l.x && nat_lt u l.y then at l.a u else at u v)
