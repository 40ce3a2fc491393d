use Rattle.std.specs.Prelude.{ℕ, if◌then◌else◌, nat_eq, nat_lt, ◌&&◌, ◌||◌}
use Rattle.slab_closure.specs.declared.relation.Relation.TheVariants.{Apart}
use Rattle.slab_closure.specs.Cells.{is_same}
use Rattle.slab_closure.specs.Changes.{HasBecome}
use Rattle.slab_closure.specs.Relations.{Table, relation_at}
use Rattle.slab_closure.proofs.parting.part_node.Given as goal

abbrev pub invariant-loop-y : goal.invariant-loop-y
invariant-loop-y l =
    let at : Table = relation_at l.initial.square in
    HasBecome l.initial.square l.square
    (λ (u v : ℕ). if (nat_eq u l.x && nat_lt v l.y && is_same (at l.b v)) || (nat_eq v l.x && nat_lt u l.y && is_same (at l.b u)) then Apart else at u v)
