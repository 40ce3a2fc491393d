use Rattle.std.specs.Prelude.{ℕ, if◌then◌else◌, nat_eq, nat_lt, ◌&&◌}
use Rattle.slab_closure.specs.declared.relation.Relation.TheVariants.{Apart}
use Rattle.slab_closure.specs.Changes.{HasBecome}
use Rattle.slab_closure.specs.Relations.{relation_at}
use Rattle.slab_closure.proofs.square.Square.part_slab.Given as goal

abbrev pub invariant-loop-t : goal.invariant-loop-t
invariant-loop-t l = HasBecome l.initial.self l.self (λ (u v : ℕ). if nat_eq u l.s && nat_lt v l.t then Apart else relation_at l.initial.self u v)
