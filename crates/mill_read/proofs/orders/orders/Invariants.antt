use Rattle.std.proofs.Common.{◌≡◌, ◌+◌, ◌*◌, ◌-◌, length, vec_capacity}
use Rattle.std.specs.List.{All}
use Rattle.mill_read.specs.OrderFile.{order_at}
use Rattle.mill_model.specs.Mill.{IsBetween}
use Rattle.mill_read.specs.Reading.{list_at}
use Rattle.mill_read.proofs.ListLaws.{with_front}
use Rattle.mill_read.proofs.orders.orders.Given as goal

abbrev pub invariant-loop : goal.invariant-loop
invariant-loop l = record {
  given : with_front l.list.items (list_at (order_at l.colours) (l.count - l.counter) l.words) ≡ list_at (order_at l.colours) l.count l.initial.words;
  weights : All (λ o. IsBetween 1 10000 o.weight) l.list.items;
  colours : All (λ o. IsBetween 1 l.colours o.colour) l.list.items;
  length : length l.list.items ≡ l.counter;
  room : vec_capacity l.list ≡ l.count;
  number : l.words.number ≡ l.initial.words.number + 2 * l.counter;
}
