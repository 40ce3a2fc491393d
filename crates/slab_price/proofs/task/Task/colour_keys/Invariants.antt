use Rattle.std.proofs.Common.{◌≡◌, ℕ, ◌<◌, length, get_or}
use Rattle.pricing_laws.specs.Frames.{colour_key}
use Rattle.slab_price.proofs.task.Task.colour_keys.Given as goal

abbrev pub invariant-loop-order : goal.invariant-loop-order
invariant-loop-order l = record {
  size : length l.keys.items ≡ l.order;
  keys : (o : ℕ) → o < l.order → get_or l.keys.items o 0 ≡ colour_key l.self.mill.now l.heads o;
}
