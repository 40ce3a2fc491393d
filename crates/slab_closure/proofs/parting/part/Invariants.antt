use Rattle.std.specs.Prelude.{ℕ, if◌then◌else◌, nat_lt, ◌&&◌, ◌||◌}
use Rattle.slab_closure.specs.declared.relation.Relation.TheVariants.{Apart}
use Rattle.slab_closure.specs.Cells.{is_same}
use Rattle.slab_closure.specs.Changes.{HasBecome}
use Rattle.slab_closure.specs.Relations.{Table, relation_at}
use Rattle.slab_closure.proofs.parting.part.Given as goal

abbrev pub invariant-loop-x : goal.invariant-loop-x
invariant-loop-x l =
    let at : Table = relation_at l.initial.square in
    HasBecome l.initial.square l.square
    (λ (u v : ℕ). if (nat_lt u l.x && is_same (at l.a u) && is_same (at l.b v)) || (nat_lt v l.x && is_same (at l.a v) && is_same (at l.b u)) then Apart else at u v)
