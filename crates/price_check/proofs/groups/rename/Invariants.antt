use Rattle.std.proofs.Common.{◌≡◌, ◌++◌, drop, take}
use Rattle.price_check.specs.Groupings.{renamed}
use Rattle.price_check.proofs.groups.rename.Given as goal

abbrev pub invariant-loop-head : goal.invariant-loop-head
invariant-loop-head l = l.heads ≡ renamed l.gone l.kept (take l.head-index l.fn.heads) ++ drop l.head-index l.fn.heads
