use Rattle.std.proofs.Common.{◌≡◌, ◌+◌, ◌-◌, length, vec_capacity}
use Rattle.std.specs.List.{All}
use Rattle.mill_read.specs.declared.fault.Why.TheVariants.{Range}
use Rattle.mill_read.specs.Reading.{number_at}
use Rattle.mill_model.specs.Mill.{IsBetween}
use Rattle.mill_read.specs.Reading.{list_at}
use Rattle.mill_read.proofs.ListLaws.{with_front}
use Rattle.mill_read.proofs.lists.numbers.Given as goal

abbrev pub invariant-loop : goal.invariant-loop
invariant-loop l = record {
  given : with_front l.list.items (list_at (number_at Range l.low l.high) (l.count - l.counter) l.words) ≡ list_at (number_at Range l.low l.high) l.count l.initial.words;
  range : All (IsBetween l.low l.high) l.list.items;
  length : length l.list.items ≡ l.counter;
  room : vec_capacity l.list ≡ l.count;
  number : l.words.number ≡ l.initial.words.number + l.counter;
}
