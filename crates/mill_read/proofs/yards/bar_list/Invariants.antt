use Rattle.std.proofs.Common.{◌≡◌, ◌+◌, ◌*◌, ◌-◌, ◌<◌, length, vec_capacity}
use Rattle.std.specs.List.{All}
use Rattle.mill_read.specs.YardFile.{bar_at}
use Rattle.mill_read.specs.Reading.{list_at}
use Rattle.mill_read.proofs.ListLaws.{with_front}
use Rattle.mill_read.proofs.yards.bar_list.Given as goal

abbrev pub invariant-loop : goal.invariant-loop
invariant-loop l = record {
  given : with_front l.list.items (list_at (bar_at l.orders l.slabs) (l.count - l.counter) l.words) ≡ list_at (bar_at l.orders l.slabs) l.count l.initial.words;
  range : All (λ bar. (bar.0 < l.orders) × (bar.1 < l.slabs)) l.list.items;
  length : length l.list.items ≡ l.counter;
  room : vec_capacity l.list ≡ l.count;
  number : l.words.number ≡ l.initial.words.number + 2 * l.counter;
}
