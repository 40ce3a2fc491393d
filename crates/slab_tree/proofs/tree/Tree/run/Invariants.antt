use Rattle.std.proofs.Common.{◌≡◌, ◌≤◌, []}
use Rattle.mill_model.specs.Plain.{IsPlainlyRefuted}
use Rattle.slab_relax.specs.Tallies.{AreNoLess, HaveCauses}
use Rattle.slab_tree.specs.Counts.{AreRaised}
use Rattle.slab_tree.specs.Searches.{IsLater, IsRunning, limits_of, bare_count}
use Rattle.slab_tree.specs.Stepping.{IsAtRoot, IsPlaceAt, rank}
use Rattle.slab_tree.proofs.tree.Tree.run.Given as goal

abbrev pub invariant-nodes : goal.invariant-nodes
invariant-nodes l = record {
  tree : IsRunning l.mill l.self;
  room : l.self.opened ≤ l.fn.nodes.limit;
  later : IsLater l.mill l.fn.self l.self;
  place : IsPlaceAt l.place l.pool l.self.path;
  mill : l.place.mill.now ≡ l.mill;
  limit : l.nodes.limit ≡ l.fn.nodes.limit;
  counts : AreRaised l.fn.nodes l.nodes l.fn.self.opened l.self.opened (bare_count l.fn.self.nodes) (bare_count l.self.nodes);
  counters : AreNoLess l.fn.tally l.tally;
  causes : HaveCauses (bare_count l.fn.self.nodes) l.fn.tally (bare_count l.self.nodes) l.tally;
  plain : IsPlainlyRefuted l.mill (limits_of l.fn.self) → l.fn.self.nodes ≡ [] → IsAtRoot l.fn.self l.self;
}

abbrev pub decreases-nodes : goal.decreases-nodes
decreases-nodes l = rank l.fn.nodes.limit l.self
