use Rattle.std.proofs.Common.{ℕ, ◌*◌, ◌≤◌, get_or}
use Rattle.mill_model.specs.Columns.{order_at}
use Rattle.pricing_laws.proofs.Groups.{AreSums}
use Rattle.slab_node.proofs.kinds.weigh.Given as goal

abbrev pub invariant-loop-order : goal.invariant-loop-order
invariant-loop-order l = record {
  sums : AreSums (λ o. (order_at l.mill o).weight) l.heads l.order l.weights;
  light : (head : ℕ) → get_or l.weights head 0 ≤ l.order * 10000;
}
