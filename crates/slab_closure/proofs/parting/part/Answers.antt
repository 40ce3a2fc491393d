use Rattle.std.proofs.Common.{◌<◌, false, arith, sym, ◌∙◌}
use Rattle.slab_closure.specs.Relations.{AreDecided, relation_at}
use Rattle.slab_closure.proofs.Parts.{AreTwo, two_groups, part_step, part_pass, parted_all}
use Rattle.slab_closure.proofs.Squares.{decided_relations}
use Rattle.slab_closure.proofs.parting.part.Goals.{then-in_one_group, else-in_one_group}
use Rattle.slab_closure.proofs.parting.part.Goals as goal

pub loop-x-preserved : goal.loop-x-preserved
loop-x-preserved c =
    let within : c.loop-x.x < c.args.square.now.count = omega arith in
    let two : AreTwo c.args.square.now.count c.args.a c.args.b (relation_at c.args.square.now) =
    two_groups c.args.square.now.count c.args.square.now.slabs c.args.a c.args.b (relation_at c.args.square.now) c.requires.relations.closed c.requires.a c.requires.b c.requires.open in
    elim c.if-in_one_group.branch [
      | then-in_one_group w ↦ rw w.square-is (part_step _ _ _ c.args.a c.args.b c.loop-x.x two c.requires.a c.requires.b within c.loop-x.invariant (sym c.in_one_group.ensures ∙ w.if-in_one_group.true) w.part_node.ensures)
      | else-in_one_group w ↦ rw w.square-is (part_pass _ _ c.args.a c.args.b c.loop-x.x two c.requires.a within c.loop-x.invariant (sym c.in_one_group.ensures ∙ w.if-in_one_group.false))
    ]

decided : (c : goal.After-loop-x) → AreDecided c.args.square.now c.loop-x.square c.args.a c.args.b false
decided c = record {
  count = c.loop-x.invariant.count;
  slabs = c.loop-x.invariant.slabs;
  at = λ u v i j. c.loop-x.invariant.at u v i j
      ∙ parted_all c.args.square.now.count c.args.square.now.slabs c.args.a c.args.b c.loop-x.x u v (relation_at c.args.square.now) c.requires.relations.closed c.requires.a c.requires.b i j (omega arith);
}

pub returns-clause-decided : goal.returns-clause-decided
returns-clause-decided c = decided c

pub returns-clause-relations : goal.returns-clause-relations
returns-clause-relations c = decided_relations false _ _ _ _ c.requires.relations c.requires.a c.requires.b c.requires.open (decided c) c.loop-x.invariant.cells
