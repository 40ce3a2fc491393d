use Rattle.std.proofs.Common.{◌≡◌, ℕ, ◌-◌, ◌<◌, ◌≤◌, true, length}
use Rattle.mill_model.specs.Columns.{has}
use Rattle.pricing_laws.specs.Colours.{colour_at}
use Rattle.pricing_laws.specs.Groups.{head_of}
use Rattle.slab_price.proofs.search.Search.is_group_of.Given as goal

abbrev pub invariant-members : goal.invariant-members
invariant-members l = record {
  within : l.order ≤ length l.self.task.mill.now.orders;
  here : l.order < length l.self.task.mill.now.orders → head_of l.self.frame.now.groups.heads l.order ≡ l.head;
  before : (o : ℕ) → o < l.order → head_of l.self.frame.now.groups.heads o ≡ l.head → has l.colours (colour_at l.self.task.mill.now o) ≡ true;
}

abbrev pub decreases-members : goal.decreases-members
decreases-members l = length l.self.task.mill.now.orders - l.order
