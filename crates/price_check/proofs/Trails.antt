-- A trail with one decision more.
use Rattle.std.proofs.Common.{ℕ, ◌<◌, Bool, true, false, List, ◌∷◌, length, get_or, set, arith, length-set}
use Rattle.std.proofs.lemmas.Bool.{false_from_ne_true}
use Rattle.mill_model.specs.declared.ask.Ask.{Ask}
use Rattle.mill_model.specs.Decisions.{Decision}
use Rattle.mill_model.specs.Trees.{IsFresh}
use Rattle.mill_model.specs.Decisions.{IsAskAmong}
use Rattle.price_check.specs.Marks.{place_of, IsMarkedTrail}
use Rattle.price_check.proofs.Places.{place_of-lt}
use Rattle.price_check.proofs.Marks.{AreMarked-put, asked_where_marked, few_decisions}

module _ (n s : ℕ) (decisions : List Decision) (marks : List Bool) (capacity : ℕ) (trail : IsMarkedTrail n s decisions marks capacity) (ask : Ask) (asked : IsAskAmong n s ask) where
  -- the question's place is that of a mark
  pub place_within : place_of n s ask < length marks
  place_within = omega (arith, place_of-lt n s ask asked, trail.size)

  -- a fresh question is noted
  pub trail_put : (answer : Bool) → IsFresh ask decisions → IsMarkedTrail n s ((ask, answer) ∷ decisions) (set marks (place_of n s ask) true) capacity
  trail_put answer fresh = record {
    few_orders = trail.few_orders;
    few_slabs = trail.few_slabs;
    size = omega (arith, length-set marks (place_of n s ask) true, trail.size);
    marked = AreMarked-put n s decisions marks ask answer trail.marked asked place_within (false_from_ne_true (get_or marks (place_of n s ask) false) (λ e. fresh (asked_where_marked n s decisions marks ask trail.marked asked e)));
    room = trail.room;
  }

  -- and it finds room
  pub trail_room : IsFresh ask decisions → length decisions < capacity
  trail_room fresh =
      let more = trail_put true fresh in
      omega (arith, few_decisions n s ((ask, true) ∷ decisions) (set marks (place_of n s ask) true) more.marked, more.size, trail.room)
