use Rattle.std.proofs.Common.{◌≢◌, ◌+◌, ◌<◌, ℕ, get_or}
use Rattle.slab_closure.specs.declared.relation.Relation.TheVariants.{Apart}
use Rattle.slab_closure.specs.Relations.{relation_at}
use Rattle.slab_decide.proofs.column.are_orders_beside.Given as goal

abbrev pub invariant-loop-order : goal.invariant-loop-order
invariant-loop-order l = (k : ℕ) → k < l.order-index → relation_at l.relations l.x (l.yard + get_or l.orders k 0) ≢ Apart
