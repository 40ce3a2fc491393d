use Rattle.std.proofs.Common.{◌≡◌, map, take}
use Rattle.slab_relax.specs.Duals.{turned}
use Rattle.slab_relax.proofs.duals.all_turned.Given as goal

abbrev pub invariant-loop-number : goal.invariant-loop-number
invariant-loop-number l = l.turns.items ≡ map turned (take l.number-index l.numbers)
