use Rattle.std.specs.Prelude.{ℕ, if◌then◌else◌, nat_lt, ◌&&◌}
use Rattle.slab_closure.specs.declared.relation.Relation.TheVariants.{Apart}
use Rattle.slab_closure.specs.Changes.{HasBecome}
use Rattle.slab_closure.specs.Relations.{relation_at}
use Rattle.slab_closure.proofs.square.Square.part_slabs.Given as goal

abbrev pub invariant-loop-s : goal.invariant-loop-s
invariant-loop-s l = HasBecome l.initial.self l.self (λ (u v : ℕ). if nat_lt u l.s && nat_lt v l.initial.self.slabs then Apart else relation_at l.initial.self u v)
