use Rattle.std.proofs.Common.{◌≡◌, ℕ, ◌<◌, ◌≤◌, ◌^◌, pos, ◌≤ℤ◌, length, get_or}
use Rattle.std.specs.Prelude.{◌-ℤ◌, unsigned_abs}
use Rattle.mill_model.specs.declared.kind.Kind.{Kind}
use Rattle.mill_model.specs.Columns.{IsInStock, size_of}
use Rattle.pricing_laws.specs.Gains.{cost_of}
use Rattle.slab_price.proofs.task.Task.ends.Given as goal

abbrev pub invariant-loop-load : goal.invariant-loop-load
invariant-loop-load l = record {
  size : length l.ends.items ≡ l.load;
  least : (k : ℕ) (kind : Kind) → k < l.load → IsInStock l.self.mill.now kind → k ≤ size_of l.self.mill.now kind → (pos 0 -ℤ cost_of l.self.mill.now l.self.prices.now kind) ≤ℤ get_or l.ends.items k (pos 0);
  small : (k : ℕ) → k < l.load → unsigned_abs (get_or l.ends.items k (pos 0)) ≤ 2 ^ 90;
}
