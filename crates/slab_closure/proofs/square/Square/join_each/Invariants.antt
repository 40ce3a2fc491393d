use Rattle.std.specs.Prelude.{ℕ, if◌then◌else◌, nat_eq, nat_lt, ◌&&◌}
use Rattle.slab_closure.specs.declared.relation.Relation.TheVariants.{Same}
use Rattle.slab_closure.specs.Changes.{HasBecome}
use Rattle.slab_closure.specs.Relations.{relation_at}
use Rattle.slab_closure.proofs.square.Square.join_each.Given as goal

abbrev pub invariant-loop-x : goal.invariant-loop-x
invariant-loop-x l = HasBecome l.initial.self l.self (λ (u v : ℕ). if nat_eq u v && nat_lt u l.x then Same else relation_at l.initial.self u v)
