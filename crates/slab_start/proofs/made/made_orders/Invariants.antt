use Rattle.std.proofs.Common.{◌≡◌, ◌<◌, ◌+◌, ◌/◌, map}
use Rattle.std.specs.List.{range_with_len}
use Rattle.number_draws.specs.Draws.{draw, among}
use Rattle.slab_start.specs.Made.{made_order}
use Rattle.slab_start.proofs.made.made_orders.Given as goal

abbrev pub invariant-loop-i : goal.invariant-loop-i
invariant-loop-i l = record {
  orders : l.orders.items ≡ map (made_order l.count l.seed) (range_with_len 0 l.i);
  number : l.draws.last ≡ draw l.seed (l.i / 2 + 1);
  drawn : l.drawn ≡ among 43 l.draws.last;
  within : l.drawn < 43;
}
