use Rattle.std.proofs.Common.{◌<◌, arith, ap, ◌∙◌}
use Rattle.slab_closure.specs.declared.relation.Relation.{Relation}
use Rattle.slab_closure.specs.Cells.{joined_of}
use Rattle.slab_closure.specs.Relations.{relation_at}
use Rattle.slab_closure.proofs.Joins.{then_becomes, row_step}
use Rattle.slab_closure.proofs.joining.join_row.Goals as goal

pub loop-y-preserved : goal.loop-y-preserved
loop-y-preserved c =
    let within : c.loop-y.y < c.args.square.now.count = omega arith in
    then_becomes _ _ _ _ _ _ c.loop-y.invariant c.set.ensures
    (λ u v i j. row_step c.args.a c.args.b c.loop-y.y u v (relation_at c.args.square.now) (relation_at c.loop-y.square) c.joined-relation.result
    (c.loop-y.invariant.at u v i j)
    (c.loop-y.invariant.at c.args.a c.loop-y.y c.requires.a within)
    (c.loop-y.invariant.at c.args.b c.loop-y.y c.requires.b within)
    (c.joined-relation.ensures ∙ ap (λ (r : Relation). joined_of r c.at-in-loop-y.result) c.at.ensures ∙ ap (joined_of (relation_at c.loop-y.square c.args.a c.loop-y.y)) c.at-in-loop-y.ensures))
