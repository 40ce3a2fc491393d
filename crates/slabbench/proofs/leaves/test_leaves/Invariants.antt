use Rattle.std.proofs.Common.{◌≡◌, length}
use Rattle.slabbench.proofs.leaves.test_leaves.Given as goal

abbrev pub invariant-rounds : goal.invariant-rounds
invariant-rounds l = record { orders : l.path.orders ≡ length l.mill.orders; slabs : l.path.slabs ≡ length l.mill.yard }

abbrev pub invariant-lines : goal.invariant-lines
invariant-lines l = record { orders : l.path.orders ≡ length l.mill.orders; slabs : l.path.slabs ≡ length l.mill.yard }

abbrev pub decreases-lines : goal.decreases-lines
decreases-lines l = length l.view
