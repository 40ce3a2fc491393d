use Rattle.std.proofs.Common.{◌≡◌}
use Rattle.slab_relax.specs.Tallies.{AreNoLess}
use Rattle.slab_tree.specs.Stepping.{IsPlaceAt}
use Rattle.slab_tree.proofs.tree.Tree.seek.Given as goal

abbrev pub invariant-loop : goal.invariant-loop
invariant-loop l = record {
  place : IsPlaceAt l.place l.pool l.self.path;
  mill : l.place.mill.now ≡ l.fn.place.mill.now;
  counters : AreNoLess l.fn.tally l.tally;
}
