use Rattle.std.proofs.Common.{◌≡◌, ◌+◌, ◌-◌, length, vec_capacity}
use Rattle.mill_read.specs.PlanFile.{place_at}
use Rattle.mill_read.specs.Reading.{list_at}
use Rattle.mill_read.proofs.ListLaws.{with_front}
use Rattle.mill_read.proofs.plans.places.Given as goal

abbrev pub invariant-loop : goal.invariant-loop
invariant-loop l = record {
  given : with_front l.list.items (list_at place_at (l.count - l.counter) l.words) ≡ list_at place_at l.count l.initial.words;
  length : length l.list.items ≡ l.counter;
  room : vec_capacity l.list ≡ l.count;
  number : l.words.number ≡ l.initial.words.number + l.counter;
}
