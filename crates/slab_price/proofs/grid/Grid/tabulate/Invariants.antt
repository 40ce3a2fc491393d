use Rattle.std.proofs.Common.{◌≡◌, ◌+◌, ◌*◌, length, vec_capacity}
use Rattle.slab_price.specs.Tables.{IsTableOf}
use Rattle.slab_price.proofs.grid.Grid.tabulate.Given as goal

abbrev pub invariant-loop-at : goal.invariant-loop-at
invariant-loop-at l = record {
  size : length l.table.items ≡ (l.at + 1) * l.self.width;
  room : vec_capacity l.table ≡ vec_capacity l.fn.table;
  table : IsTableOf l.self l.table.items;
}
