use Rattle.std.proofs.Common.{ℕ, ◌<◌, true}
use Rattle.mill_model.specs.declared.ask.Ask.TheVariants.{Pair}
use Rattle.mill_model.specs.Assignments.{Follows}
use Rattle.slab_price.proofs.groups.head_of.Given as goal

abbrev pub invariant-loop-earlier : goal.invariant-loop-earlier
invariant-loop-earlier l = (k : ℕ) → k < l.earlier → Follows l.decisions.list (Pair k l.order) true → ⊥
