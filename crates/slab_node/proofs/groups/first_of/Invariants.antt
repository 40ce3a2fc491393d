use Rattle.std.proofs.Common.{ℕ, ◌<◌, false}
use Rattle.mill_model.specs.declared.ask.Ask.TheVariants.{Pair}
use Rattle.mill_model.specs.Assignments.{Follows}
use Rattle.slab_node.proofs.groups.first_of.Given as goal

abbrev pub invariant-loop-earlier : goal.invariant-loop-earlier
invariant-loop-earlier l = (k : ℕ) → k < l.earlier → Follows l.node.decisions.now.list (Pair k l.order) false
