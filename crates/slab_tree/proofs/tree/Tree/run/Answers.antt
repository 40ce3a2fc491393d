use Rattle.std.proofs.Common.{◌≡◌, ◌∙◌, ℕ, ◌<◌, Bool, true, false, List, [], length, refl, sym, ap, subst, inl, arith, rules}
use Rattle.std.specs.Prelude.{OnErr, Result, Ok, Err}
use Rattle.mill_model.specs.declared.limits.Limits.{Limits}
use Rattle.mill_model.specs.Mill.{Mill}
use Rattle.mill_model.specs.Decisions.{Decision}
use Rattle.mill_model.specs.Plain.{IsPlainlyRefuted}
use Rattle.mill_model.specs.Trees.{most_nodes}
use Rattle.slab_relax.specs.Tallies.{HaveCauses}
use Rattle.slab_tree.specs.declared.node.Node.{Node}
use Rattle.slab_tree.specs.declared.tree.Ended.{Ended}
use Rattle.slab_tree.specs.declared.tree.Phase.{Phase}
use Rattle.slab_tree.specs.declared.tree.Phase.TheVariants.{Running, Refused}
use Rattle.slab_tree.specs.Marking.{HoldsCover}
use Rattle.slab_tree.specs.Searches.{Search, IsLater, IsRunning, IsBest, IsEnded, limits_of, opening_of, bare_count}
use Rattle.slab_tree.specs.Standing.{waiting}
use Rattle.slab_tree.specs.Stepping.{IsAtRoot, IsClosedAtOnce, IsStepped, IsOver, IsFinish, GoesOnFrom}
use Rattle.slab_tree.proofs.Counts.{raised_trans, raised_same}
use Rattle.slab_tree.proofs.Endings.{few_running, ending_of, done_answers, IsHandedOut, IsEnding}
use Rattle.slab_tree.proofs.Moves.{later_trans}
use Rattle.slab_tree.proofs.Standing.{at_root}
use Rattle.slab_tree.proofs.Starting.{search_of}
use Rattle.slab_relax.proofs.Counting.{no_less_same, no_less_trans, causes_same, causes_trans, cause_earlier}
use Rattle.slab_tree.proofs.tree.Tree.run.Goals as goal

-- the step's answer, at the mill and the limit of the whole run
at_limit : (m p : Mill) (k limit : ℕ) (old new : Search) (a b : Bool) → p ≡ m → k ≡ limit → a ≡ b → IsStepped p k old new a → IsStepped m limit old new b
at_limit m p k limit old new a b d e f h = subst (λ (x : Bool). IsStepped m limit old new x) f (subst (λ (n : ℕ). IsStepped m n old new a) e (subst (λ (q : Mill). IsStepped q k old new a) d h))

root_of : (m : Mill) (t : Search) → IsRunning m t → t.nodes ≡ [] → t.path ≡ []
root_of m t run none = at_root m (HoldsCover m (opening_of t)) (limits_of t) t.path t.nodes run.stands none

one_of : (m : Mill) (t : Search) → IsRunning m t → t.nodes ≡ [] → t.opened ≡ 1
one_of m t run none = omega (arith, run.opened, ap (λ (ns : List Node). length ns) none, ap waiting (root_of m t run none))

-- a step at the root, where limits are plainly refuted
at_once : (m p : Mill) (first old new : Search) (on : Bool) → IsRunning m old → IsAtRoot first old → IsPlainlyRefuted m (limits_of first) → p ≡ m → (IsPlainlyRefuted p (limits_of old) → old.path ≡ [] → IsClosedAtOnce old new on) → IsClosedAtOnce old new on
at_once m p first old new on run at refuted e step =
    step (subst (λ (q : Mill). IsPlainlyRefuted q (limits_of old)) (sym e) (subst (λ (l : Limits). IsPlainlyRefuted m l) (sym at.limits) refuted)) (root_of m old run at.none)

on_err : {A E : Type 0} (r : Result A E) (P : Type 0) → P → OnErr r P
on_err (Ok x) P p = tt
on_err (Err e) P p = p

-- ---- memory was wanting before the loop

pub returns-in_err-place-clause-few : goal.returns-in_err-place-clause-few
returns-in_err-place-clause-few c = few_running c.args.mill.now c.begin.new.self c.in_err-place.ensures.begun.running

pub returns-in_err-place-clause-memory : goal.returns-in_err-place-clause-memory
returns-in_err-place-clause-memory c = on_err c.from_residual.result (IsRunning c.args.mill.now c.begin.new.self) c.in_err-place.ensures.begun.running

pub returns-in_err-place-clause-later : goal.returns-in_err-place-clause-later
returns-in_err-place-clause-later c = on_err c.from_residual.result (IsLater c.args.mill.now c.args.self.now c.begin.new.self) c.in_err-place.ensures.begun.later

pub returns-in_err-place-clause-causes : goal.returns-in_err-place-clause-causes
returns-in_err-place-clause-causes c = causes_same (bare_count c.args.self.now.nodes) (bare_count c.begin.new.self.nodes) c.args.tally.now c.args.tally.now (ap bare_count c.in_err-place.ensures.begun.nodes) (no_less_same c.args.tally.now)

pub returns-in_err-place-clause-bare_end : goal.returns-in_err-place-clause-bare_end
returns-in_err-place-clause-bare_end c = λ bare. absurd (runs c.begin.new.self.phase bare c.in_err-place.ensures.begun.running.running)
  where
    runs : (f : Phase) → f ≡ Refused true → f ≡ Running → ⊥
    runs f a b = cc

pub returns-in_err-place-clause-one : goal.returns-in_err-place-clause-one
returns-in_err-place-clause-one c = λ refuted none. one_of c.args.mill.now c.begin.new.self c.in_err-place.ensures.begun.running (c.in_err-place.ensures.begun.nodes ∙ none)

-- ---- the loop

pub nodes-init : goal.nodes-init
nodes-init c = record {
  tree = c.in_ok-place.ensures.begun.running;
  room = c.in_ok-place.ensures.begun.room;
  later = c.in_ok-place.ensures.begun.later;
  place = record { pool = c.requires.pool ∙ sym c.in_ok-place.ensures.mill; list = c.in_ok-place.ensures.told };
  mill = c.in_ok-place.ensures.mill;
  limit = c.in_ok-place.ensures.begun.counts.limit;
  counts = c.in_ok-place.ensures.begun.counts;
  counters = no_less_same c.args.tally.now;
  causes = causes_same (bare_count c.args.self.now.nodes) (bare_count c.begin.new.self.nodes) c.args.tally.now c.args.tally.now (ap bare_count c.in_ok-place.ensures.begun.nodes) (no_less_same c.args.tally.now);
  plain = λ refuted none. record { limits = c.in_ok-place.ensures.begun.plain refuted; none = c.in_ok-place.ensures.begun.nodes ∙ none };
}

pub step-requires-clause-tree : goal.step-requires-clause-tree
step-requires-clause-tree c = subst (λ (m : Mill). IsRunning m c.nodes.self) (sym c.nodes.invariant.mill) c.nodes.invariant.tree

pub nodes-preserved : goal.nodes-preserved
nodes-preserved c =
    let w : GoesOnFrom c.args.mill.now c.args.nodes.now.limit c.nodes.self c.step.new.self × IsLater c.args.mill.now c.nodes.self c.step.new.self =
    at_limit c.args.mill.now c.nodes.place.mill.now c.nodes.nodes.limit c.args.nodes.now.limit c.nodes.self c.step.new.self c.in_ok-step.field-0 true c.nodes.invariant.mill c.nodes.invariant.limit c.if-not-branch.false c.in_ok-step.ensures.ok in
    record {
      tree = w.0.running;
      room = w.0.room;
      later = later_trans c.args.mill.now c.args.self.now c.nodes.self c.step.new.self c.nodes.invariant.later w.1;
      place = c.in_ok-step.ensures.place c.if-not-branch.false;
      mill = c.in_ok-step.ensures.mill ∙ c.nodes.invariant.mill;
      limit = c.in_ok-step.ensures.counts.limit ∙ c.nodes.invariant.limit;
      counts = raised_trans c.args.nodes.now c.nodes.nodes c.step.new.nodes c.args.self.now.opened c.nodes.self.opened c.step.new.self.opened (bare_count c.args.self.now.nodes) (bare_count c.nodes.self.nodes) (bare_count c.step.new.self.nodes) c.nodes.invariant.counts c.in_ok-step.ensures.counts;
      counters = no_less_trans c.args.tally.now c.nodes.tally c.step.new.tally c.nodes.invariant.counters c.in_ok-step.ensures.counters;
      causes = causes_trans (bare_count c.args.self.now.nodes) (bare_count c.nodes.self.nodes) (bare_count c.step.new.self.nodes) c.args.tally.now c.nodes.tally c.step.new.tally c.in_ok-step.ensures.counters c.nodes.invariant.causes c.in_ok-step.ensures.causes;
      plain = λ refuted none. absurd (on (at_once c.args.mill.now c.nodes.place.mill.now c.args.self.now c.nodes.self c.step.new.self c.in_ok-step.field-0 c.nodes.invariant.tree (c.nodes.invariant.plain refuted none) refuted c.nodes.invariant.mill c.in_ok-step.ensures.plain).over);
    }
  where
    on : c.in_ok-step.field-0 ≡ false → ⊥
    on e = cc

pub returns-in_err-step-clause-few : goal.returns-in_err-step-clause-few
returns-in_err-step-clause-few c = subst (λ (t : Search). t.opened < most_nodes c.args.mill.now) (sym c.in_err-step.ensures.err) (few_running c.args.mill.now c.nodes.self c.nodes.invariant.tree)

pub returns-in_err-step-clause-one : goal.returns-in_err-step-clause-one
returns-in_err-step-clause-one c = λ refuted none.
    ap (λ (t : Search). t.opened) c.in_err-step.ensures.err
    ∙ one_of c.args.mill.now c.nodes.self c.nodes.invariant.tree (c.nodes.invariant.plain refuted none).none

pub returns-in_err-step-clause-memory : goal.returns-in_err-step-clause-memory
returns-in_err-step-clause-memory c = on_err c.from_residual-in_err-step.result (IsRunning c.args.mill.now c.step.new.self) (subst (λ (t : Search). IsRunning c.args.mill.now t) (sym c.in_err-step.ensures.err) c.nodes.invariant.tree)

pub returns-in_err-step-clause-later : goal.returns-in_err-step-clause-later
returns-in_err-step-clause-later c = on_err c.from_residual-in_err-step.result (IsLater c.args.mill.now c.args.self.now c.step.new.self) (subst (λ (t : Search). IsLater c.args.mill.now c.args.self.now t) (sym c.in_err-step.ensures.err) c.nodes.invariant.later)

-- ---- the end

ends : (m p : Mill) (k limit : ℕ) (first old new final : Search) (on : Bool) (e : Ended) → p ≡ m → k ≡ limit → on ≡ false → IsBest m first.count first.loss first.best → IsLater m first old → IsStepped p k old new on → IsFinish new.phase new.best new final e → IsEnding m limit first new final e
ends m p k limit first old new final on e mill same off start later stepped finish =
    let w : IsOver m limit new × IsLater m old new = at_limit m p k limit old new on false mill same off stepped in
    ending_of m limit first new final (later_trans m first old new later w.1) start w.0 e finish

pub returns-then-not-branch-clause-ended : goal.returns-then-not-branch-clause-ended
returns-then-not-branch-clause-ended c = (ends c.args.mill.now c.nodes.place.mill.now c.nodes.nodes.limit c.args.nodes.now.limit c.args.self.now c.nodes.self c.step.new.self c.finish.new.self c.in_ok-step.field-0 c.finish.result c.nodes.invariant.mill c.nodes.invariant.limit c.if-not-branch.true (search_of c.args.mill.now c.args.self.now c.requires.tree).best c.nodes.invariant.later c.in_ok-step.ensures.ok c.finish.ensures).ended

pub returns-then-not-branch-clause-question : goal.returns-then-not-branch-clause-question
returns-then-not-branch-clause-question c = (ends c.args.mill.now c.nodes.place.mill.now c.nodes.nodes.limit c.args.nodes.now.limit c.args.self.now c.nodes.self c.step.new.self c.finish.new.self c.in_ok-step.field-0 c.finish.result c.nodes.invariant.mill c.nodes.invariant.limit c.if-not-branch.true (search_of c.args.mill.now c.args.self.now c.requires.tree).best c.nodes.invariant.later c.in_ok-step.ensures.ok c.finish.ensures).question

pub returns-then-not-branch-clause-room : goal.returns-then-not-branch-clause-room
returns-then-not-branch-clause-room c = (ends c.args.mill.now c.nodes.place.mill.now c.nodes.nodes.limit c.args.nodes.now.limit c.args.self.now c.nodes.self c.step.new.self c.finish.new.self c.in_ok-step.field-0 c.finish.result c.nodes.invariant.mill c.nodes.invariant.limit c.if-not-branch.true (search_of c.args.mill.now c.args.self.now c.requires.tree).best c.nodes.invariant.later c.in_ok-step.ensures.ok c.finish.ensures).room

pub returns-then-not-branch-clause-few : goal.returns-then-not-branch-clause-few
returns-then-not-branch-clause-few c = (ends c.args.mill.now c.nodes.place.mill.now c.nodes.nodes.limit c.args.nodes.now.limit c.args.self.now c.nodes.self c.step.new.self c.finish.new.self c.in_ok-step.field-0 c.finish.result c.nodes.invariant.mill c.nodes.invariant.limit c.if-not-branch.true (search_of c.args.mill.now c.args.self.now c.requires.tree).best c.nodes.invariant.later c.in_ok-step.ensures.ok c.finish.ensures).few

pub returns-then-not-branch-clause-plain : goal.returns-then-not-branch-clause-plain
returns-then-not-branch-clause-plain c = λ refuted none.
    done_answers c.step.new.self c.finish.new.self
    (at_once c.args.mill.now c.nodes.place.mill.now c.args.self.now c.nodes.self c.step.new.self c.in_ok-step.field-0 c.nodes.invariant.tree (c.nodes.invariant.plain refuted none) refuted c.nodes.invariant.mill c.in_ok-step.ensures.plain).finished
    c.finish.result c.finish.ensures

pub returns-then-not-branch-clause-one : goal.returns-then-not-branch-clause-one
returns-then-not-branch-clause-one c = λ refuted none.
    let kept : IsHandedOut c.step.new.self c.finish.new.self = (ends c.args.mill.now c.nodes.place.mill.now c.nodes.nodes.limit c.args.nodes.now.limit c.args.self.now c.nodes.self c.step.new.self c.finish.new.self c.in_ok-step.field-0 c.finish.result c.nodes.invariant.mill c.nodes.invariant.limit c.if-not-branch.true (search_of c.args.mill.now c.args.self.now c.requires.tree).best c.nodes.invariant.later c.in_ok-step.ensures.ok c.finish.ensures).kept in
    kept.opened
    ∙ (at_once c.args.mill.now c.nodes.place.mill.now c.args.self.now c.nodes.self c.step.new.self c.in_ok-step.field-0 c.nodes.invariant.tree (c.nodes.invariant.plain refuted none) refuted c.nodes.invariant.mill c.in_ok-step.ensures.plain).opened
    ∙ one_of c.args.mill.now c.nodes.self c.nodes.invariant.tree (c.nodes.invariant.plain refuted none).none

pub returns-then-not-branch-clause-counts : goal.returns-then-not-branch-clause-counts
returns-then-not-branch-clause-counts c =
    let kept : IsHandedOut c.step.new.self c.finish.new.self = (ends c.args.mill.now c.nodes.place.mill.now c.nodes.nodes.limit c.args.nodes.now.limit c.args.self.now c.nodes.self c.step.new.self c.finish.new.self c.in_ok-step.field-0 c.finish.result c.nodes.invariant.mill c.nodes.invariant.limit c.if-not-branch.true (search_of c.args.mill.now c.args.self.now c.requires.tree).best c.nodes.invariant.later c.in_ok-step.ensures.ok c.finish.ensures).kept in
    raised_same c.args.nodes.now c.step.new.nodes c.args.self.now.opened c.step.new.self.opened c.finish.new.self.opened (bare_count c.args.self.now.nodes) (bare_count c.step.new.self.nodes) (bare_count c.finish.new.self.nodes) (sym kept.opened) (sym (ap (λ (ns : List Node). bare_count ns) kept.nodes))
    (raised_trans c.args.nodes.now c.nodes.nodes c.step.new.nodes c.args.self.now.opened c.nodes.self.opened c.step.new.self.opened (bare_count c.args.self.now.nodes) (bare_count c.nodes.self.nodes) (bare_count c.step.new.self.nodes) c.nodes.invariant.counts c.in_ok-step.ensures.counts)

pub returns-then-not-branch-clause-causes : goal.returns-then-not-branch-clause-causes
returns-then-not-branch-clause-causes c =
    let kept : IsHandedOut c.step.new.self c.finish.new.self = (ends c.args.mill.now c.nodes.place.mill.now c.nodes.nodes.limit c.args.nodes.now.limit c.args.self.now c.nodes.self c.step.new.self c.finish.new.self c.in_ok-step.field-0 c.finish.result c.nodes.invariant.mill c.nodes.invariant.limit c.if-not-branch.true (search_of c.args.mill.now c.args.self.now c.requires.tree).best c.nodes.invariant.later c.in_ok-step.ensures.ok c.finish.ensures).kept in
    subst (λ (ns : List Node). HaveCauses (bare_count c.args.self.now.nodes) c.args.tally.now (bare_count ns) c.step.new.tally) (sym kept.nodes)
    (causes_trans (bare_count c.args.self.now.nodes) (bare_count c.nodes.self.nodes) (bare_count c.step.new.self.nodes) c.args.tally.now c.nodes.tally c.step.new.tally c.in_ok-step.ensures.counters c.nodes.invariant.causes c.in_ok-step.ensures.causes)

pub returns-then-not-branch-clause-bare_end : goal.returns-then-not-branch-clause-bare_end
returns-then-not-branch-clause-bare_end c = λ bare.
    let kept : IsHandedOut c.step.new.self c.finish.new.self = (ends c.args.mill.now c.nodes.place.mill.now c.nodes.nodes.limit c.args.nodes.now.limit c.args.self.now c.nodes.self c.step.new.self c.finish.new.self c.in_ok-step.field-0 c.finish.result c.nodes.invariant.mill c.nodes.invariant.limit c.if-not-branch.true (search_of c.args.mill.now c.args.self.now c.requires.tree).best c.nodes.invariant.later c.in_ok-step.ensures.ok c.finish.ensures).kept in
    cause_earlier c.args.tally.now c.nodes.tally c.step.new.tally c.nodes.invariant.counters (c.in_ok-step.ensures.bare_end (sym kept.phase ∙ bare))
