use Rattle.std.proofs.Common.{◌≡◌, ◌-◌, length}
use Rattle.slab_columns.specs.Pool.{HasGrown}
use Rattle.slab_relax.specs.Masters.{IsRestricted}
use Rattle.slab_relax.specs.Tallies.{AreNoLess}
use Rattle.slab_relax.proofs.relaxing.relax.Given as goal

abbrev pub invariant-rounds : goal.invariant-rounds
invariant-rounds l = record {
  mill : l.pool.mill ≡ l.node.mill.now;
  restricted : IsRestricted l.node l.pool.columns l.restricted;
  grown : HasGrown l.fn.pool l.pool;
  counters : AreNoLess l.fn.tally l.tally;
}

abbrev pub decreases-rounds : goal.decreases-rounds
decreases-rounds l = 8192 - length l.pool.columns
