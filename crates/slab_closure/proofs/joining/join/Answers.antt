use Rattle.std.proofs.Common.{◌≡◌, ◌<◌, true, arith, sym, ◌∙◌}
use Rattle.slab_closure.specs.declared.relation.Relation.TheVariants.{Same}
use Rattle.slab_closure.specs.Relations.{AreDecided, relation_at}
use Rattle.slab_closure.proofs.Joins.{joined_itself_at, joined_all, join_step, join_pass}
use Rattle.slab_closure.proofs.Squares.{decided_relations}
use Rattle.slab_closure.proofs.joining.join.Goals.{then-in_one_group, else-in_one_group}
use Rattle.slab_closure.proofs.joining.join.Goals as goal

pub loop-x-preserved : goal.loop-x-preserved
loop-x-preserved c =
    let own : relation_at c.join_row.new.square c.args.a c.args.a ≡ Same =
    joined_itself_at c.args.square.now.count c.args.square.now.slabs c.args.a c.args.b (relation_at c.args.square.now) (relation_at c.join_row.new.square) c.requires.relations.closed c.requires.a c.requires.b c.join_row.ensures.at in
    let first : c.args.a < c.join_row.new.square.count = omega (arith, c.join_row.ensures.count, c.requires.a) in
    let within : c.loop-x.x < c.join_row.new.square.count = omega arith in
    elim c.if-in_one_group.branch [
      | then-in_one_group w ↦ rw w.square-is (join_step _ _ _ c.args.a c.loop-x.x first within own c.loop-x.invariant (sym c.in_one_group.ensures ∙ w.if-in_one_group.true) w.copy_node.ensures)
      | else-in_one_group w ↦ rw w.square-is (join_pass _ _ c.args.a c.loop-x.x first within own c.loop-x.invariant (sym c.in_one_group.ensures ∙ w.if-in_one_group.false))
    ]

decided : (c : goal.After-loop-x) → AreDecided c.args.square.now c.loop-x.square c.args.a c.args.b true
decided c = record {
  count = c.loop-x.invariant.count ∙ c.join_row.ensures.count;
  slabs = c.loop-x.invariant.slabs ∙ c.join_row.ensures.slabs;
  at = λ u v i j. c.loop-x.invariant.at u v (omega (arith, i, c.join_row.ensures.count)) (omega (arith, j, c.join_row.ensures.count))
      ∙ joined_all c.args.square.now.count c.args.square.now.slabs c.args.a c.args.b c.loop-x.x u v (relation_at c.args.square.now) (relation_at c.join_row.new.square) c.requires.relations.closed c.requires.a c.requires.b i j (omega arith) c.join_row.ensures.at;
}

pub returns-clause-decided : goal.returns-clause-decided
returns-clause-decided c = decided c

pub returns-clause-relations : goal.returns-clause-relations
returns-clause-relations c = decided_relations true _ _ _ _ c.requires.relations c.requires.a c.requires.b c.requires.open (decided c) (c.loop-x.invariant.cells ∙ c.join_row.ensures.cells)
