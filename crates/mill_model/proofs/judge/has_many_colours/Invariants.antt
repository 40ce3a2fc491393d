use Rattle.std.proofs.Common.{take, map, ℕ, length, ◌≤◌}
use Rattle.mill_model.specs.Columns.{order_at}
use Rattle.mill_model.specs.Plans.{places_of}
use Rattle.mill_model.specs.ColourSet.{AreColours}
use Rattle.mill_model.proofs.judge.has_many_colours.Given as goal

abbrev pub invariant-loop-o : goal.invariant-loop-o
invariant-loop-o l = record { few : length l.colours ≤ l.limit; are : AreColours l.colours (map (λ (o : ℕ). (order_at l.mill o).colour) (places_of l.k 0 (take l.o l.place))) }
