use Rattle.std.proofs.Common.{◌≤◌, ℕ, length, map, take}
use Rattle.mill_model.specs.Columns.{order_at}
use Rattle.mill_model.specs.ColourSet.{AreColours}
use Rattle.mill_model.proofs.mill.Mill.has_few_colours.Given as goal

abbrev pub invariant-loop-order : goal.invariant-loop-order
invariant-loop-order l = record {
  few : length l.colours ≤ l.limit;
  are : AreColours l.colours (map (λ (o : ℕ). (order_at l.self o).colour) (take l.order-index l.orders));
}
