use Rattle.std.proofs.Common.{ℕ, ◌<◌, false}
use Rattle.mill_model.specs.declared.ask.Ask.TheVariants.{Put}
use Rattle.mill_model.specs.Assignments.{Follows}
use Rattle.slab_node.proofs.groups.slab_of.Given as goal

abbrev pub invariant-loop-slab : goal.invariant-loop-slab
invariant-loop-slab l = (s : ℕ) → s < l.slab → Follows l.node.decisions.now.list (Put l.order s) false
