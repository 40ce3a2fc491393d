use Rattle.std.proofs.Common.{◌≡◌}
use Rattle.slab_relax.specs.Tallies.{AreNoLess}
use Rattle.slab_tree.proofs.dives.dive.Given as goal

abbrev pub invariant-loop : goal.invariant-loop
invariant-loop l = record {
  counters : AreNoLess l.fn.tally l.tally;
  pool : l.pool.mill ≡ l.place.mill.now;
  mill : l.place.mill.now ≡ l.fn.place.mill.now;
}
