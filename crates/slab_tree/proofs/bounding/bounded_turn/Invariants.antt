use Rattle.std.proofs.Common.{◌≡◌}
use Rattle.slab_relax.specs.Tallies.{AreNoLess}
use Rattle.slab_tree.proofs.bounding.bounded_turn.Given as goal

abbrev pub invariant-loop : goal.invariant-loop
invariant-loop l = record {
  counters : AreNoLess l.fn.tally l.tally;
  mill : l.pool.mill ≡ l.place.mill.now;
}
