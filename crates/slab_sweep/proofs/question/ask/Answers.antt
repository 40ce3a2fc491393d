use Rattle.std.proofs.Common.{◌≡◌, ◌≤◌, sym, subst, length, arith}
use Rattle.mill_model.specs.Fronts.{Point}
use Rattle.slab_tree.specs.declared.tree.Ended.{Ended}
use Rattle.slab_tree.specs.Marking.{bare_marks}
use Rattle.slab_tree.specs.Searches.{EndsLeast, EndsNoPlan, EndsBudget, IsEnded, KeepsBest, bare_count, opening_of as tree_opening}
use Rattle.slab_tree.proofs.BareMarks.{may_count}
use Rattle.slab_sweep.specs.Made.{IsFound}
use Rattle.slab_sweep.specs.Questions.{AreCounted, opening_of}
use Rattle.slab_sweep.proofs.Questions.{opens_with, finished_counted, refused_counted, refused_few, found_of, keeps_best, nothing_of, cut_of}
use Rattle.slab_sweep.proofs.question.ask.Goals as goal

pub tightened-requires-clause-room : goal.tightened-requires-clause-room
tightened-requires-clause-room c =
    let first = c.in_ok-tree.tree in
    let last = c.run.new.self in
    let ends : EndsLeast c.args.mill.now c.in_ok-tree.tree c.run.new.self c.in-Least.plan = subst (λ (e : Ended). IsEnded c.args.mill.now c.args.nodes.now.limit c.in_ok-tree.tree c.run.new.self e) c.in-Least.is c.in_ok-plan.ensures.ended in
    may_count c.args.nodes.now c.run.new.nodes first last c.opened-before.ensures.bare c.in_ok-tree.ensures.tree.no_nodes c.in_ok-tree.ensures.tree.none_opened c.run.ensures.counts ends.tree.opened

pub tightened-requires-in-NoPlan-clause-room : goal.tightened-requires-in-NoPlan-clause-room
tightened-requires-in-NoPlan-clause-room c =
    let first = c.in_ok-tree.tree in
    let last = c.run.new.self in
    let ends : EndsNoPlan c.args.mill.now c.in_ok-tree.tree c.run.new.self = subst (λ (e : Ended). IsEnded c.args.mill.now c.args.nodes.now.limit c.in_ok-tree.tree c.run.new.self e) c.in-NoPlan.is c.in_ok-plan.ensures.ended in
    may_count c.args.nodes.now c.run.new.nodes first last c.opened-before.ensures.bare c.in_ok-tree.ensures.tree.no_nodes c.in_ok-tree.ensures.tree.none_opened c.run.ensures.counts ends.tree.opened

pub returns-in_ok-steps-in-Least-clause-answer : goal.returns-in_ok-steps-in-Least-clause-answer
returns-in_ok-steps-in-Least-clause-answer c =
    let m = c.args.mill.now in
    let first = c.in_ok-tree.tree in
    let last = c.run.new.self in
    let ends : EndsLeast c.args.mill.now c.in_ok-tree.tree c.run.new.self c.in-Least.plan = subst (λ (e : Ended). IsEnded c.args.mill.now c.args.nodes.now.limit c.in_ok-tree.tree c.run.new.self e) c.in-Least.is c.in_ok-plan.ensures.ended in
    let opens : tree_opening c.run.new.self ≡ opening_of c.args.mill.now c.args.count c.args.best = opens_with m c.args.count c.args.best first last c.in_ok-tree.ensures.tree c.in_ok-tree.ensures.count c.in_ok-tree.ensures.best c.in_ok-tree.ensures.loss c.run.ensures.question in
    subst (λ (q : Point). IsFound c.args.mill.now (opening_of c.args.mill.now c.args.count c.args.best) q × KeepsBest c.args.mill.now c.args.count c.args.best q.plan × AreCounted (length q.steps.steps) (bare_marks q.steps.marks) c.args.nodes.now c.tightened.new.nodes c.args.tally.now c.tightened.new.tally)
    (sym c.proved.ensures) (
      found_of m c.args.count c.args.best first last c.in_ok-tree.ensures.count c.in_ok-tree.ensures.best c.run.ensures.question opens c.in-Least.plan c.in_ok-steps-in-Least.steps ends c.in_ok-steps-in-Least.ensures.made,
      keeps_best m c.args.count c.args.best first last c.in_ok-tree.ensures.count c.in_ok-tree.ensures.best c.run.ensures.question opens c.in-Least.plan ends,
      finished_counted c.args.nodes.now c.run.new.nodes first last c.in_ok-tree.ensures.tree.no_nodes c.in_ok-tree.ensures.tree.none_opened c.run.ensures.counts c.tightened.new.nodes c.args.tally.now c.run.new.tally c.tightened.new.tally c.in_ok-steps-in-Least.steps m ends.tree c.in_ok-steps-in-Least.ensures.fewer c.tightened.ensures.opened c.tightened.ensures.rises c.in_ok-steps-in-Least.ensures.counted c.run.ensures.counters c.in_ok-steps-in-Least.ensures.causes,
    )

pub returns-in_ok-steps-in-NoPlan-clause-answer : goal.returns-in_ok-steps-in-NoPlan-clause-answer
returns-in_ok-steps-in-NoPlan-clause-answer c =
    let m = c.args.mill.now in
    let first = c.in_ok-tree.tree in
    let last = c.run.new.self in
    let ends : EndsNoPlan c.args.mill.now c.in_ok-tree.tree c.run.new.self = subst (λ (e : Ended). IsEnded c.args.mill.now c.args.nodes.now.limit c.in_ok-tree.tree c.run.new.self e) c.in-NoPlan.is c.in_ok-plan.ensures.ended in
    let opens : tree_opening c.run.new.self ≡ opening_of c.args.mill.now c.args.count c.args.best = opens_with m c.args.count c.args.best first last c.in_ok-tree.ensures.tree c.in_ok-tree.ensures.count c.in_ok-tree.ensures.best c.in_ok-tree.ensures.loss c.run.ensures.question in (
      nothing_of m c.args.count c.args.best first last c.in_ok-tree.ensures.count c.in_ok-tree.ensures.best c.run.ensures.question opens c.in_ok-steps-in-NoPlan.steps ends c.in_ok-steps-in-NoPlan.ensures.made,
      finished_counted c.args.nodes.now c.run.new.nodes first last c.in_ok-tree.ensures.tree.no_nodes c.in_ok-tree.ensures.tree.none_opened c.run.ensures.counts c.tightened-in-NoPlan.new.nodes c.args.tally.now c.run.new.tally c.tightened-in-NoPlan.new.tally c.in_ok-steps-in-NoPlan.steps m ends.tree c.in_ok-steps-in-NoPlan.ensures.fewer c.tightened-in-NoPlan.ensures.opened c.tightened-in-NoPlan.ensures.rises c.in_ok-steps-in-NoPlan.ensures.counted c.run.ensures.counters c.in_ok-steps-in-NoPlan.ensures.causes,
    )

pub returns-in_ok-steps-in-Least-clause-within : goal.returns-in_ok-steps-in-Least-clause-within
returns-in_ok-steps-in-Least-clause-within c =
    let ends : EndsLeast c.args.mill.now c.in_ok-tree.tree c.run.new.self c.in-Least.plan = subst (λ (e : Ended). IsEnded c.args.mill.now c.args.nodes.now.limit c.in_ok-tree.tree c.run.new.self e) c.in-Least.is c.in_ok-plan.ensures.ended in
    subst (λ (q : Point). length q.steps.steps ≤ c.args.nodes.now.limit) (sym c.proved.ensures)
    (omega (arith, c.in_ok-steps-in-Least.ensures.fewer, ends.tree.opened, c.run.ensures.room))

pub returns-in_ok-steps-in-NoPlan-clause-within : goal.returns-in_ok-steps-in-NoPlan-clause-within
returns-in_ok-steps-in-NoPlan-clause-within c =
    let ends : EndsNoPlan c.args.mill.now c.in_ok-tree.tree c.run.new.self = subst (λ (e : Ended). IsEnded c.args.mill.now c.args.nodes.now.limit c.in_ok-tree.tree c.run.new.self e) c.in-NoPlan.is c.in_ok-plan.ensures.ended in
    omega (arith, c.in_ok-steps-in-NoPlan.ensures.fewer, ends.tree.opened, c.run.ensures.room)

pub returns-in_ok-open_tree-in-Budget-clause-within : goal.returns-in_ok-open_tree-in-Budget-clause-within
returns-in_ok-open_tree-in-Budget-clause-within c =
    let first = c.in_ok-tree.tree in
    let last = c.run.new.self in
    let ends : EndsBudget c.args.mill.now c.args.nodes.now.limit c.in_ok-tree.tree c.run.new.self = subst (λ (e : Ended). IsEnded c.args.mill.now c.args.nodes.now.limit c.in_ok-tree.tree c.run.new.self e) c.in-Budget.is c.in_ok-plan.ensures.ended in
    let rest = c.in_ok-open_tree-in-Budget.field-0 in
    omega (arith, c.run.ensures.room, refused_few c.args.nodes.now c.run.new.nodes first last c.in_ok-tree.ensures.tree.no_nodes c.in_ok-tree.ensures.tree.none_opened c.run.ensures.counts rest c.args.mill.now c.args.nodes.now.limit ends.tree c.in_ok-open_tree-in-Budget.ensures.outline)

pub returns-in_ok-open_tree-in-Budget-clause-answer : goal.returns-in_ok-open_tree-in-Budget-clause-answer
returns-in_ok-open_tree-in-Budget-clause-answer c =
    let m = c.args.mill.now in
    let first = c.in_ok-tree.tree in
    let last = c.run.new.self in
    let ends : EndsBudget c.args.mill.now c.args.nodes.now.limit c.in_ok-tree.tree c.run.new.self = subst (λ (e : Ended). IsEnded c.args.mill.now c.args.nodes.now.limit c.in_ok-tree.tree c.run.new.self e) c.in-Budget.is c.in_ok-plan.ensures.ended in
    let opens : tree_opening c.run.new.self ≡ opening_of c.args.mill.now c.args.count c.args.best = opens_with m c.args.count c.args.best first last c.in_ok-tree.ensures.tree c.in_ok-tree.ensures.count c.in_ok-tree.ensures.best c.in_ok-tree.ensures.loss c.run.ensures.question in
    let rest = c.in_ok-open_tree-in-Budget.field-0 in (
      bare_count last.nodes,
      cut_of m c.args.count c.args.best first last c.in_ok-tree.ensures.count c.in_ok-tree.ensures.best c.run.ensures.question opens c.args.nodes.now.limit rest c.args.tally.now c.run.new.tally ends c.run.ensures.bare_end (c.in_ok-open_tree-in-Budget.ensures.cut m c.args.nodes.now.limit ends.tree),
      refused_counted c.args.nodes.now c.run.new.nodes first last c.in_ok-tree.ensures.tree.no_nodes c.in_ok-tree.ensures.tree.none_opened c.run.ensures.counts c.args.tally.now c.run.new.tally rest m c.args.nodes.now.limit ends.tree c.in_ok-open_tree-in-Budget.ensures.outline c.run.ensures.causes,
    )
