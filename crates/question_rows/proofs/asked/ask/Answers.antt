use Rattle.std.proofs.Common.{subst}
use Rattle.slab_tree.specs.declared.tree.Ended.{Ended}
use Rattle.slab_tree.specs.Searches.{EndsLeast, EndsNoPlan, IsEnded}
use Rattle.slab_tree.proofs.BareMarks.{may_count}
use Rattle.question_rows.proofs.asked.ask.Goals as goal

pub tighten-requires-clause-room : goal.tighten-requires-clause-room
tighten-requires-clause-room c =
    let first = c.in_ok-tree.tree in
    let last = c.run.new.self in
    let ends : EndsLeast c.args.mill.now c.in_ok-tree.tree c.run.new.self c.in-Least.plan = subst (λ (e : Ended). IsEnded c.args.mill.now c.args.nodes.now.limit c.in_ok-tree.tree c.run.new.self e) c.in-Least.is c.in_ok-plan.ensures.ended in
    may_count c.args.nodes.now c.run.new.nodes first last c.opened-before.ensures.bare c.in_ok-tree.ensures.tree.no_nodes c.in_ok-tree.ensures.tree.none_opened c.run.ensures.counts ends.tree.opened

pub tighten-requires-in-NoPlan-clause-room : goal.tighten-requires-in-NoPlan-clause-room
tighten-requires-in-NoPlan-clause-room c =
    let first = c.in_ok-tree.tree in
    let last = c.run.new.self in
    let ends : EndsNoPlan c.args.mill.now c.in_ok-tree.tree c.run.new.self = subst (λ (e : Ended). IsEnded c.args.mill.now c.args.nodes.now.limit c.in_ok-tree.tree c.run.new.self e) c.in-NoPlan.is c.in_ok-plan.ensures.ended in
    may_count c.args.nodes.now c.run.new.nodes first last c.opened-before.ensures.bare c.in_ok-tree.ensures.tree.no_nodes c.in_ok-tree.ensures.tree.none_opened c.run.ensures.counts ends.tree.opened
