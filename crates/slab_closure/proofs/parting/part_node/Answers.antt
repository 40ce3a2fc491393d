use Rattle.std.proofs.Common.{◌<◌, arith, sym, ◌∙◌}
use Rattle.slab_closure.proofs.Parts.{node_step, node_pass}
use Rattle.slab_closure.proofs.parting.part_node.Goals.{then-in_one_group, else-in_one_group}
use Rattle.slab_closure.proofs.parting.part_node.Goals as goal

pub loop-y-preserved : goal.loop-y-preserved
loop-y-preserved c =
    let within : c.loop-y.y < c.args.square.now.count = omega arith in
    elim c.if-in_one_group.branch [
      | then-in_one_group w ↦ rw w.square-is (node_step _ _ _ c.args.b c.args.x c.loop-y.y c.requires.b within c.requires.itself c.requires.other c.loop-y.invariant (sym c.in_one_group.ensures ∙ w.if-in_one_group.true) w.set_pair.ensures)
      | else-in_one_group w ↦ rw w.square-is (node_pass _ _ c.args.b c.args.x c.loop-y.y c.requires.b within c.requires.itself c.requires.other c.loop-y.invariant (sym c.in_one_group.ensures ∙ w.if-in_one_group.false))
    ]
