use Rattle.std.proofs.Common.{◌≡◌, ◌≤◌, ◌*◌, take, sum}
use Rattle.slab_node.proofs.plain.yard_size.Given as goal

abbrev pub invariant-loop-size : goal.invariant-loop-size
invariant-loop-size l = record { value : l.total ≡ sum (take l.size-index l.mill.yard); small : l.total ≤ 10000 * l.size-index }
