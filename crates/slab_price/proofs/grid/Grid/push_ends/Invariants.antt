use Rattle.std.proofs.Common.{◌≡◌, length, vec_capacity}
use Rattle.slab_price.specs.Tables.{IsTableOf}
use Rattle.slab_price.proofs.grid.Grid.push_ends.Given as goal

abbrev pub invariant-loop-column : goal.invariant-loop-column
invariant-loop-column l = record {
  size : length l.table.items ≡ l.column;
  room : vec_capacity l.table ≡ vec_capacity l.initial.table;
  table : IsTableOf l.self l.table.items;
}
