use Rattle.std.proofs.Common.{◌≡◌, take, reverse}
use Rattle.slab_tree.proofs.path.replay.Given as goal

abbrev pub invariant-loop-ask : goal.invariant-loop-ask
invariant-loop-ask l = l.decisions ≡ record l.fn.decisions { list = reverse (take l.ask-index l.path) }
