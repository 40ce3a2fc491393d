use Rattle.std.proofs.Common.{◌<◌, arith}
use Rattle.slab_closure.specs.Relations.{relation_at}
use Rattle.slab_closure.proofs.Joins.{then_becomes, node_step}
use Rattle.slab_closure.proofs.joining.copy_node.Goals as goal

pub loop-y-preserved : goal.loop-y-preserved
loop-y-preserved c =
    let within : c.loop-y.y < c.args.square.now.count = omega arith in
    then_becomes _ _ _ _ _ _ c.loop-y.invariant c.set_pair.ensures
    (λ u v i j. node_step c.args.a c.args.x c.loop-y.y u v (relation_at c.args.square.now) (relation_at c.loop-y.square) c.at-relation.result c.requires.itself c.requires.same
    (c.loop-y.invariant.at u v i j)
    (c.loop-y.invariant.at c.args.a c.loop-y.y c.requires.a within)
    c.at-relation.ensures)
