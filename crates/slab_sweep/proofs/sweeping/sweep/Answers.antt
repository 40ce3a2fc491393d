use Rattle.std.proofs.Common.{◌≡◌, ◌∙◌, ◌<◌, ℕ, length, refl, sym, ap, subst, arith, List, None}
use Rattle.mill_model.specs.Fronts.{Point, last_sums}
use Rattle.mill_model.specs.Starts.{IsAsTold}
use Rattle.slab_columns.specs.Pool.{Pool}
use Rattle.slab_tree.specs.Searches.{KeepsBest}
use Rattle.slab_sweep.specs.declared.question.Answer.{Answer}
use Rattle.slab_sweep.specs.Openings.{Telling, count_after, opening_after}
use Rattle.slab_sweep.specs.Made.{IsFound, IsNothing, IsCut}
use Rattle.slab_sweep.specs.Counting.{CountsNodes, questions_left}
use Rattle.slab_sweep.specs.Progress.{IsUnderWay}
use Rattle.slab_sweep.specs.declared.swept.Swept.{Swept}
use Rattle.slab_sweep.specs.Swept.{HasTreesWithin, IsSwept, IsAnswer, made_nodes}
use Rattle.slab_sweep.specs.declared.swept.Swept.TheVariants.{Budget}
use Rattle.slab_tree.specs.Marking.{bare_marks}
use Rattle.slab_sweep.specs.Questions.{HasTreeWithin, IsAnswered, IsClosed, AreCounted, opening_of}
use Rattle.slab_sweep.proofs.Openings.{found_opens, nothing_opens, cut_opens}
use Rattle.slab_sweep.proofs.Plainly.{plainly_opens, plainly_placed, plainly_one}
use Rattle.slab_sweep.proofs.Progress.{at_first, few_so_far, few_after, have_causes, are_no_less, goes_on, ended, cut_off, ended_answers, ended_within, fewer_left}
use Rattle.slab_sweep.proofs.sweeping.sweep.Goals as goal

pub questions-init : goal.questions-init
questions-init g c = (
  subst (λ (ps : List Point). IsUnderWay (g.T.Starter.told c.args.starter.now) c.args.mill.now c.args.head ps c.args.nodes.now c.args.nodes.now c.args.tally.now c.args.tally.now) (sym c.into_points-points.ensures)
      (at_first (g.T.Starter.told c.args.starter.now) c.args.mill.now c.args.head c.args.nodes.now c.args.tally.now c.requires.head),
  ap (λ (p : Pool). p.mill) c.in_ok-pool.ensures,
  refl,
)

pub returns-in_err-best-clause-opens : goal.returns-in_err-best-clause-opens
returns-in_err-best-clause-opens g c = few_so_far c.questions.invariant.0

pub returns-in_err-best-clause-causes : goal.returns-in_err-best-clause-causes
returns-in_err-best-clause-causes g c = c.questions.invariant.0.causes

pub returns-in_err-best-clause-counters : goal.returns-in_err-best-clause-counters
returns-in_err-best-clause-counters g c = c.questions.invariant.0.counters

pub returns-in_err-best-clause-tells : goal.returns-in_err-best-clause-tells
returns-in_err-best-clause-tells g c = c.start.ensures.tells ∙ c.questions.invariant.2

pub ask-requires-clause-pool : goal.ask-requires-clause-pool
ask-requires-clause-pool g c = c.questions.invariant.1

pub returns-in_err-point-clause-opens : goal.returns-in_err-point-clause-opens
returns-in_err-point-clause-opens g c = few_after c.questions.invariant.0 c.ask.ensures.opens

pub returns-in_err-point-clause-causes : goal.returns-in_err-point-clause-causes
returns-in_err-point-clause-causes g c = have_causes c.questions.invariant.0 c.ask.new.nodes.bare c.ask.ensures.causes c.ask.ensures.counters

pub returns-in_err-point-clause-counters : goal.returns-in_err-point-clause-counters
returns-in_err-point-clause-counters g c = are_no_less c.questions.invariant.0 c.ask.ensures.counters

pub returns-in_err-point-clause-tells : goal.returns-in_err-point-clause-tells
returns-in_err-point-clause-tells g c = c.start.ensures.tells ∙ c.questions.invariant.2

pub questions-smaller : goal.questions-smaller
questions-smaller g c =
    let count : c.count_limit-count.result ≡ count_after (last_sums None c.questions.points.items) = c.count_limit-count.ensures.value ∙ ap (λ (ps : List Point). count_after (last_sums None ps)) c.deref.ensures.value in
    let as_told : IsAsTold (g.T.Starter.told c.args.starter.now) c.args.mill.now c.count_limit-count.result c.in_ok-best.best = subst (λ (t : Telling). IsAsTold t c.args.mill.now c.count_limit-count.result c.in_ok-best.best) c.questions.invariant.2 c.in_ok-best.ensures.as_told in
    let answer : IsFound c.args.mill.now (opening_of c.args.mill.now c.count_limit-count.result c.in_ok-best.best) c.in-Found.point × KeepsBest c.args.mill.now c.count_limit-count.result c.in_ok-best.best c.in-Found.point.plan × AreCounted (length c.in-Found.point.steps.steps) (bare_marks c.in-Found.point.steps.marks) c.questions.nodes c.ask.new.nodes c.questions.tally c.ask.new.tally = subst (λ (a : Answer). IsAnswered c.args.mill.now c.count_limit-count.result c.in_ok-best.best c.questions.nodes c.ask.new.nodes c.questions.tally c.ask.new.tally a) c.in-Found.is c.in_ok-point.ensures.answer in
    subst (λ (ps : List Point). questions_left c.args.mill.now ps < questions_left c.args.mill.now c.questions.points.items) (sym c.in_ok-place-in-Found.ensures)
    (omega (arith, fewer_left (g.T.Starter.told c.args.starter.now) c.args.mill.now c.questions.points.items c.in-Found.point (found_opens (g.T.Starter.told c.args.starter.now) c.args.mill.now (last_sums None c.questions.points.items) c.count_limit-count.result c.in_ok-best.best count as_told c.in-Found.point answer.0)))

pub questions-preserved : goal.questions-preserved
questions-preserved g c =
    let count : c.count_limit-count.result ≡ count_after (last_sums None c.questions.points.items) = c.count_limit-count.ensures.value ∙ ap (λ (ps : List Point). count_after (last_sums None ps)) c.deref.ensures.value in
    let as_told : IsAsTold (g.T.Starter.told c.args.starter.now) c.args.mill.now c.count_limit-count.result c.in_ok-best.best = subst (λ (t : Telling). IsAsTold t c.args.mill.now c.count_limit-count.result c.in_ok-best.best) c.questions.invariant.2 c.in_ok-best.ensures.as_told in
    let answer : IsFound c.args.mill.now (opening_of c.args.mill.now c.count_limit-count.result c.in_ok-best.best) c.in-Found.point × KeepsBest c.args.mill.now c.count_limit-count.result c.in_ok-best.best c.in-Found.point.plan × AreCounted (length c.in-Found.point.steps.steps) (bare_marks c.in-Found.point.steps.marks) c.questions.nodes c.ask.new.nodes c.questions.tally c.ask.new.tally = subst (λ (a : Answer). IsAnswered c.args.mill.now c.count_limit-count.result c.in_ok-best.best c.questions.nodes c.ask.new.nodes c.questions.tally c.ask.new.tally a) c.in-Found.is c.in_ok-point.ensures.answer in (
      subst (λ (ps : List Point). IsUnderWay (g.T.Starter.told c.args.starter.now) c.args.mill.now c.args.head ps c.args.nodes.now c.ask.new.nodes c.args.tally.now c.ask.new.tally) (sym c.in_ok-place-in-Found.ensures)
          (goes_on c.questions.invariant.0 c.ask.ensures.opens c.ask.ensures.counters c.in-Found.point c.ask.ensures.causes (found_opens (g.T.Starter.told c.args.starter.now) c.args.mill.now (last_sums None c.questions.points.items) c.count_limit-count.result c.in_ok-best.best count as_told c.in-Found.point answer.0) answer.2 (subst (λ (a : Answer). HasTreeWithin c.questions.nodes.limit a) c.in-Found.is c.in_ok-point.ensures.within)
          (λ t empty. plainly_placed (g.T.Starter.told c.args.starter.now) c.args.mill.now t c.count_limit-count.result c.in_ok-best.best as_told c.args.nodes.now c.questions.nodes c.questions.points.items c.in-Found.point c.ask.new.nodes c.orders-orders.ensures.limits c.in_ok-best.ensures.legal (c.questions.invariant.0.plainly t empty) count answer.0 answer.1 ((c.in_ok-point.ensures.plain (plainly_opens (g.T.Starter.told c.args.starter.now) c.args.mill.now t c.count_limit-count.result c.in_ok-best.best as_told c.args.nodes.now c.questions.nodes c.questions.points.items (c.questions.invariant.0.plainly t empty) count)).one))),
      c.ask.ensures.pool,
      c.start.ensures.tells ∙ c.questions.invariant.2,
    )

pub returns-in_err-place-in-Found-clause-opens : goal.returns-in_err-place-in-Found-clause-opens
returns-in_err-place-in-Found-clause-opens g c = few_after c.questions.invariant.0 c.ask.ensures.opens

pub returns-in_err-place-in-Found-clause-causes : goal.returns-in_err-place-in-Found-clause-causes
returns-in_err-place-in-Found-clause-causes g c = have_causes c.questions.invariant.0 c.ask.new.nodes.bare c.ask.ensures.causes c.ask.ensures.counters

pub returns-in_err-place-in-Found-clause-counters : goal.returns-in_err-place-in-Found-clause-counters
returns-in_err-place-in-Found-clause-counters g c = are_no_less c.questions.invariant.0 c.ask.ensures.counters

pub returns-in_err-place-in-Found-clause-tells : goal.returns-in_err-place-in-Found-clause-tells
returns-in_err-place-in-Found-clause-tells g c = c.start.ensures.tells ∙ c.questions.invariant.2

pub returns-in-Nothing-clause-opens : goal.returns-in-Nothing-clause-opens
returns-in-Nothing-clause-opens g c = few_after c.questions.invariant.0 c.ask.ensures.opens

pub returns-in-Nothing-clause-causes : goal.returns-in-Nothing-clause-causes
returns-in-Nothing-clause-causes g c = have_causes c.questions.invariant.0 c.ask.new.nodes.bare c.ask.ensures.causes c.ask.ensures.counters

pub returns-in-Nothing-clause-counters : goal.returns-in-Nothing-clause-counters
returns-in-Nothing-clause-counters g c = are_no_less c.questions.invariant.0 c.ask.ensures.counters

pub returns-in-Nothing-clause-tells : goal.returns-in-Nothing-clause-tells
returns-in-Nothing-clause-tells g c = c.start.ensures.tells ∙ c.questions.invariant.2

pub returns-in-Cut-clause-swept : goal.returns-in-Cut-clause-swept
returns-in-Cut-clause-swept g c =
    let count : c.count_limit-count.result ≡ count_after (last_sums None c.questions.points.items) = c.count_limit-count.ensures.value ∙ ap (λ (ps : List Point). count_after (last_sums None ps)) c.deref.ensures.value in
    let as_told : IsAsTold (g.T.Starter.told c.args.starter.now) c.args.mill.now c.count_limit-count.result c.in_ok-best.best = subst (λ (t : Telling). IsAsTold t c.args.mill.now c.count_limit-count.result c.in_ok-best.best) c.questions.invariant.2 c.in_ok-best.ensures.as_told in
    let answer : (bares : ℕ) × IsCut c.args.mill.now (opening_of c.args.mill.now c.count_limit-count.result c.in_ok-best.best) c.questions.nodes.limit bares c.questions.tally c.ask.new.tally c.in-Cut.open_tree × AreCounted (length c.in-Cut.open_tree) bares c.questions.nodes c.ask.new.nodes c.questions.tally c.ask.new.tally = subst (λ (a : Answer). IsAnswered c.args.mill.now c.count_limit-count.result c.in_ok-best.best c.questions.nodes c.ask.new.nodes c.questions.tally c.ask.new.tally a) c.in-Cut.is c.in_ok-point.ensures.answer in
    let cut : IsCut c.args.mill.now (opening_after (g.T.Starter.told c.args.starter.now) c.args.mill.now (last_sums None c.questions.points.items)) c.args.nodes.now.limit answer.0 c.args.tally.now c.ask.new.tally c.in-Cut.open_tree = subst (λ (n : ℕ). IsCut c.args.mill.now (opening_after (g.T.Starter.told c.args.starter.now) c.args.mill.now (last_sums None c.questions.points.items)) n answer.0 c.args.tally.now c.ask.new.tally c.in-Cut.open_tree) c.questions.invariant.0.room.limit (cut_opens (g.T.Starter.told c.args.starter.now) c.args.mill.now (last_sums None c.questions.points.items) c.count_limit-count.result c.in_ok-best.best count as_told c.questions.nodes.limit answer.0 c.args.tally.now c.questions.tally c.ask.new.tally c.in-Cut.open_tree c.questions.invariant.0.counters answer.1) in
    subst (λ (ps : List Point). IsSwept (g.T.Starter.told c.args.starter.now) c.args.mill.now c.args.head c.args.nodes.now c.ask.new.nodes c.args.tally.now c.ask.new.tally (Budget ps c.in-Cut.open_tree)) (sym c.new-in-Cut.ensures) ((cut_off c.questions.invariant.0 c.ask.ensures.opens c.ask.ensures.counters c.in-Cut.open_tree answer.0 cut answer.2).0)

pub returns-in-Cut-clause-made : goal.returns-in-Cut-clause-made
returns-in-Cut-clause-made g c =
    let count : c.count_limit-count.result ≡ count_after (last_sums None c.questions.points.items) = c.count_limit-count.ensures.value ∙ ap (λ (ps : List Point). count_after (last_sums None ps)) c.deref.ensures.value in
    let as_told : IsAsTold (g.T.Starter.told c.args.starter.now) c.args.mill.now c.count_limit-count.result c.in_ok-best.best = subst (λ (t : Telling). IsAsTold t c.args.mill.now c.count_limit-count.result c.in_ok-best.best) c.questions.invariant.2 c.in_ok-best.ensures.as_told in
    let answer : (bares : ℕ) × IsCut c.args.mill.now (opening_of c.args.mill.now c.count_limit-count.result c.in_ok-best.best) c.questions.nodes.limit bares c.questions.tally c.ask.new.tally c.in-Cut.open_tree × AreCounted (length c.in-Cut.open_tree) bares c.questions.nodes c.ask.new.nodes c.questions.tally c.ask.new.tally = subst (λ (a : Answer). IsAnswered c.args.mill.now c.count_limit-count.result c.in_ok-best.best c.questions.nodes c.ask.new.nodes c.questions.tally c.ask.new.tally a) c.in-Cut.is c.in_ok-point.ensures.answer in
    let cut : IsCut c.args.mill.now (opening_after (g.T.Starter.told c.args.starter.now) c.args.mill.now (last_sums None c.questions.points.items)) c.args.nodes.now.limit answer.0 c.args.tally.now c.ask.new.tally c.in-Cut.open_tree = subst (λ (n : ℕ). IsCut c.args.mill.now (opening_after (g.T.Starter.told c.args.starter.now) c.args.mill.now (last_sums None c.questions.points.items)) n answer.0 c.args.tally.now c.ask.new.tally c.in-Cut.open_tree) c.questions.invariant.0.room.limit (cut_opens (g.T.Starter.told c.args.starter.now) c.args.mill.now (last_sums None c.questions.points.items) c.count_limit-count.result c.in_ok-best.best count as_told c.questions.nodes.limit answer.0 c.args.tally.now c.questions.tally c.ask.new.tally c.in-Cut.open_tree c.questions.invariant.0.counters answer.1) in
    subst (λ (ps : List Point). CountsNodes (made_nodes c.args.head (Budget ps c.in-Cut.open_tree)) c.args.nodes.now c.ask.new.nodes) (sym c.new-in-Cut.ensures) ((cut_off c.questions.invariant.0 c.ask.ensures.opens c.ask.ensures.counters c.in-Cut.open_tree answer.0 cut answer.2).1)

pub returns-in-Cut-clause-opens : goal.returns-in-Cut-clause-opens
returns-in-Cut-clause-opens g c = few_after c.questions.invariant.0 c.ask.ensures.opens

pub returns-in-Cut-clause-causes : goal.returns-in-Cut-clause-causes
returns-in-Cut-clause-causes g c = have_causes c.questions.invariant.0 c.ask.new.nodes.bare c.ask.ensures.causes c.ask.ensures.counters

pub returns-in-Cut-clause-counters : goal.returns-in-Cut-clause-counters
returns-in-Cut-clause-counters g c = are_no_less c.questions.invariant.0 c.ask.ensures.counters

pub returns-in-Cut-clause-tells : goal.returns-in-Cut-clause-tells
returns-in-Cut-clause-tells g c = c.start.ensures.tells ∙ c.questions.invariant.2

pub returns-in-Nothing-clause-swept : goal.returns-in-Nothing-clause-swept
returns-in-Nothing-clause-swept g c =
    let count : c.count_limit-count.result ≡ count_after (last_sums None c.questions.points.items) = c.count_limit-count.ensures.value ∙ ap (λ (ps : List Point). count_after (last_sums None ps)) c.deref.ensures.value in
    let as_told : IsAsTold (g.T.Starter.told c.args.starter.now) c.args.mill.now c.count_limit-count.result c.in_ok-best.best = subst (λ (t : Telling). IsAsTold t c.args.mill.now c.count_limit-count.result c.in_ok-best.best) c.questions.invariant.2 c.in_ok-best.ensures.as_told in
    let answer : IsNothing c.args.mill.now (opening_of c.args.mill.now c.count_limit-count.result c.in_ok-best.best) c.in-Nothing.steps × AreCounted (length c.in-Nothing.steps.steps) (bare_marks c.in-Nothing.steps.marks) c.questions.nodes c.ask.new.nodes c.questions.tally c.ask.new.tally = subst (λ (a : Answer). IsAnswered c.args.mill.now c.count_limit-count.result c.in_ok-best.best c.questions.nodes c.ask.new.nodes c.questions.tally c.ask.new.tally a) c.in-Nothing.is c.in_ok-point.ensures.answer in
    subst (λ (s : Swept). IsSwept (g.T.Starter.told c.args.starter.now) c.args.mill.now c.args.head c.args.nodes.now c.ask.new.nodes c.args.tally.now c.ask.new.tally s) (sym c.finished.ensures)
    (ended c.questions.invariant.0 c.ask.ensures.opens c.ask.ensures.counters c.in-Nothing.steps (nothing_opens (g.T.Starter.told c.args.starter.now) c.args.mill.now (last_sums None c.questions.points.items) c.count_limit-count.result c.in_ok-best.best count as_told c.in-Nothing.steps answer.0) answer.1).0

pub returns-in-Nothing-clause-made : goal.returns-in-Nothing-clause-made
returns-in-Nothing-clause-made g c =
    let count : c.count_limit-count.result ≡ count_after (last_sums None c.questions.points.items) = c.count_limit-count.ensures.value ∙ ap (λ (ps : List Point). count_after (last_sums None ps)) c.deref.ensures.value in
    let as_told : IsAsTold (g.T.Starter.told c.args.starter.now) c.args.mill.now c.count_limit-count.result c.in_ok-best.best = subst (λ (t : Telling). IsAsTold t c.args.mill.now c.count_limit-count.result c.in_ok-best.best) c.questions.invariant.2 c.in_ok-best.ensures.as_told in
    let answer : IsNothing c.args.mill.now (opening_of c.args.mill.now c.count_limit-count.result c.in_ok-best.best) c.in-Nothing.steps × AreCounted (length c.in-Nothing.steps.steps) (bare_marks c.in-Nothing.steps.marks) c.questions.nodes c.ask.new.nodes c.questions.tally c.ask.new.tally = subst (λ (a : Answer). IsAnswered c.args.mill.now c.count_limit-count.result c.in_ok-best.best c.questions.nodes c.ask.new.nodes c.questions.tally c.ask.new.tally a) c.in-Nothing.is c.in_ok-point.ensures.answer in
    subst (λ (s : Swept). CountsNodes (made_nodes c.args.head s) c.args.nodes.now c.ask.new.nodes) (sym c.finished.ensures)
    (ended c.questions.invariant.0 c.ask.ensures.opens c.ask.ensures.counters c.in-Nothing.steps (nothing_opens (g.T.Starter.told c.args.starter.now) c.args.mill.now (last_sums None c.questions.points.items) c.count_limit-count.result c.in_ok-best.best count as_told c.in-Nothing.steps answer.0) answer.1).1

pub returns-in-Nothing-clause-within : goal.returns-in-Nothing-clause-within
returns-in-Nothing-clause-within g c =
    subst (λ (s : Swept). HasTreesWithin c.args.nodes.now.limit c.args.head s) (sym c.finished.ensures)
    (ended_within c.questions.invariant.0 c.in-Nothing.steps (subst (λ (a : Answer). HasTreeWithin c.questions.nodes.limit a) c.in-Nothing.is c.in_ok-point.ensures.within))

pub returns-in-Cut-clause-within : goal.returns-in-Cut-clause-within
returns-in-Cut-clause-within g c =
    subst (λ (ps : List Point). HasTreesWithin c.args.nodes.now.limit c.args.head (Budget ps c.in-Cut.open_tree)) (sym c.new-in-Cut.ensures)
    (c.questions.invariant.0.within, omega (arith, subst (λ (a : Answer). HasTreeWithin c.questions.nodes.limit a) c.in-Cut.is c.in_ok-point.ensures.within, c.questions.invariant.0.room.limit))

pub returns-in-Nothing-clause-plain : goal.returns-in-Nothing-clause-plain
returns-in-Nothing-clause-plain g c =
    let count : c.count_limit-count.result ≡ count_after (last_sums None c.questions.points.items) = c.count_limit-count.ensures.value ∙ ap (λ (ps : List Point). count_after (last_sums None ps)) c.deref.ensures.value in
    let as_told : IsAsTold (g.T.Starter.told c.args.starter.now) c.args.mill.now c.count_limit-count.result c.in_ok-best.best = subst (λ (t : Telling). IsAsTold t c.args.mill.now c.count_limit-count.result c.in_ok-best.best) c.questions.invariant.2 c.in_ok-best.ensures.as_told in
    λ t empty. record {
      answer = subst (λ (s : Swept). IsAnswer s) (sym c.finished.ensures) (ended_answers c.questions.points.items c.in-Nothing.steps);
      two = omega (arith, (c.in_ok-point.ensures.plain (plainly_opens (g.T.Starter.told c.args.starter.now) c.args.mill.now t c.count_limit-count.result c.in_ok-best.best as_told c.args.nodes.now c.questions.nodes c.questions.points.items (c.questions.invariant.0.plainly t empty) count)).one, plainly_one c.args.mill.now t.plan c.questions.points.items c.args.nodes.now c.questions.nodes (c.questions.invariant.0.plainly t empty));
    }

pub returns-in-Cut-clause-plain : goal.returns-in-Cut-clause-plain
returns-in-Cut-clause-plain g c =
    let count : c.count_limit-count.result ≡ count_after (last_sums None c.questions.points.items) = c.count_limit-count.ensures.value ∙ ap (λ (ps : List Point). count_after (last_sums None ps)) c.deref.ensures.value in
    let as_told : IsAsTold (g.T.Starter.told c.args.starter.now) c.args.mill.now c.count_limit-count.result c.in_ok-best.best = subst (λ (t : Telling). IsAsTold t c.args.mill.now c.count_limit-count.result c.in_ok-best.best) c.questions.invariant.2 c.in_ok-best.ensures.as_told in
    λ t empty. record {
      answer = subst (λ (a : Answer). IsClosed a) c.in-Cut.is (c.in_ok-point.ensures.plain (plainly_opens (g.T.Starter.told c.args.starter.now) c.args.mill.now t c.count_limit-count.result c.in_ok-best.best as_told c.args.nodes.now c.questions.nodes c.questions.points.items (c.questions.invariant.0.plainly t empty) count)).closed;
      two = omega (arith, (c.in_ok-point.ensures.plain (plainly_opens (g.T.Starter.told c.args.starter.now) c.args.mill.now t c.count_limit-count.result c.in_ok-best.best as_told c.args.nodes.now c.questions.nodes c.questions.points.items (c.questions.invariant.0.plainly t empty) count)).one, plainly_one c.args.mill.now t.plan c.questions.points.items c.args.nodes.now c.questions.nodes (c.questions.invariant.0.plainly t empty));
    }
