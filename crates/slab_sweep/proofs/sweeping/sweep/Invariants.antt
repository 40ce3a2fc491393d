use Rattle.std.proofs.Common.{◌≡◌}
use Rattle.slab_sweep.specs.Counting.{questions_left}
use Rattle.slab_sweep.specs.Progress.{IsUnderWay}
use Rattle.slab_sweep.proofs.sweeping.sweep.Given as goal

abbrev pub invariant-questions : goal.invariant-questions
invariant-questions g l =
    IsUnderWay (g.T.Starter.told l.fn.starter) l.fn.mill l.fn.head l.points.items l.fn.nodes l.nodes l.fn.tally l.tally
    × (l.pool.mill ≡ l.fn.mill)
    × (g.T.Starter.told l.starter ≡ g.T.Starter.told l.fn.starter)

abbrev pub decreases-questions : goal.decreases-questions
decreases-questions g l = questions_left l.fn.mill l.points.items
