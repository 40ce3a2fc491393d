use Rattle.std.proofs.Common.{◌≡◌, ◌+◌, ◌≤◌, [], length}
use Rattle.slab_relax.specs.Tallies.{AreNoLess, HaveCauses}
use Rattle.slab_tree.specs.declared.tree.Phase.TheVariants.{Running}
use Rattle.slab_tree.specs.Rewriting.{IsWalk, AreKept, IsTallied}
use Rattle.slab_tree.specs.Tightening.{IsSameTree, HasRoom}
use Rattle.slab_tree.specs.Searches.{HasLimitsBelow, bare_count}
use Rattle.slab_tree.specs.Stepping.{IsWorkplace}
use Rattle.slab_tree.proofs.tree.Tree.tighten.Given as goal

abbrev pub invariant-loop-node : goal.invariant-loop-node
invariant-loop-node l = record {
  same : IsSameTree l.fn.self l.tree;
  limits : HasLimitsBelow l.tree;
  walk : IsWalk l.mill l.tree l.rest;
  place : l.tree.phase ≡ Running → IsWorkplace l.mill l.table l.pool l.decisions l.tree.path;
  mill : l.pool.mill ≡ l.mill;
  fewer : length l.tree.nodes + length l.rest ≤ length l.fn.self.nodes;
  kept : AreKept l.fn.nodes l.nodes;
  room : HasRoom l.nodes l.rest;
  tallied : IsTallied l.fn.nodes l.nodes [] l.tree.nodes l.fn.self.nodes l.rest;
  causes : HaveCauses 0 l.fn.tally (bare_count l.tree.nodes) l.tally;
  bare : HaveCauses l.fn.nodes.bare l.fn.tally l.nodes.bare l.tally;
  counters : AreNoLess l.fn.tally l.tally;
}

abbrev pub decreases-loop-node : goal.decreases-loop-node
decreases-loop-node l = length l.rest
