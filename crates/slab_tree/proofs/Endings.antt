-- How a search ends.
use Rattle.std.proofs.Common.{◌≡◌, ℕ, ◌+◌, ◌-◌, ◌<◌, ◌≤◌, ℤ, pos, ◌-ℤ◌, ◌≤ℤ◌, Bool, true, false, List, [], ◌∷◌, ◌++◌, length, Option, Some, None, refl, sym, ap, subst, ◌∙◌, arith, inl, inr, map, replicate, suc, append-nil}
use Rattle.std.specs.Prelude.{◌⊎◌, IsSomeAnd}
use Rattle.std.proofs.lemmas.Int.{ints}
use Rattle.mill_model.specs.declared.ask.Ask.{Ask}
use Rattle.mill_model.specs.declared.limits.Limits.{Limits}
use Rattle.mill_model.specs.declared.mark.Mark.{Mark}
use Rattle.mill_model.specs.declared.mark.Mark.TheVariants.{Bare}
use Rattle.mill_model.specs.Mill.{Mill}
use Rattle.mill_model.specs.Plans.{Plan, IsLegal, sums_of}
use Rattle.mill_model.specs.Limits.{AtMost, IsWithin}
use Rattle.mill_model.specs.Starts.{IsStart}
use Rattle.mill_model.specs.Decisions.{Decision}
use Rattle.mill_model.specs.Trees.{Tree, IsTree, EverySplit, IsOpenTree, marks_of, most_nodes, outline, nodes as tree_nodes, RefutingTree}
use Rattle.mill_model.specs.Trees.Tree.{End, Split}
use Rattle.mill_model.proofs.NodeBound.{nodes_most}
use Rattle.mill_model.proofs.Preorder.{length-listing}
use Rattle.mill_model.proofs.TreeLaws.{tree_refutes}
use Rattle.slab_tree.specs.declared.node.Node.{Node}
use Rattle.slab_tree.specs.declared.node.Node.TheVariants.{Closed, Branched}
use Rattle.slab_tree.specs.declared.tree.Phase.{Phase}
use Rattle.slab_tree.specs.declared.tree.Phase.TheVariants.{Running, Done, Refused}
use Rattle.slab_tree.specs.declared.tree.Ended.{Ended}
use Rattle.slab_tree.specs.declared.tree.Ended.TheVariants.{Least, NoPlan, Budget}
use Rattle.slab_tree.specs.Marking.{MarkRule, HasCoverUnlessBare, HoldsCover, bare_marks}
use Rattle.slab_tree.specs.Standing.{IsSplit, IsWhole, waiting}
use Rattle.slab_tree.specs.Unfinished.{Outlined, IsUnfinished, IsCutTree, ask_of, marks_in}
use Rattle.slab_tree.specs.Searches.{Search, limits_of, opening_of, loss_below, IsBest, IsRunning, IsFinished, IsRefused, HasLimitsBelow, HasBareEnd, IsLeast, KeepsBest, EndsLeast, EndsNoPlan, EndsBudget, IsEnded, IsAnswer, IsLater, IsSameQuestion, outline_of, bare_count}
use Rattle.slab_tree.specs.Stepping.{IsComplete, IsOver, IsFinish}
use Rattle.slab_tree.proofs.Limits.{cover_greater, holds_cover, not_below}
use Rattle.slab_tree.proofs.Outlines.{IsOutlineAt, opens, outline_count, few_outlined, open_tree_of, graft}
use Rattle.slab_tree.proofs.Standing.{lean}

-- ---- no plan is left

nothing_within : (m : Mill) (Rule : MarkRule) (limits : Limits) (nodes : List Node) → IsWhole m Rule limits nodes → (p : Plan) → IsLegal m p → IsWithin (sums_of m p) limits → ⊥
nothing_within m Rule limits nodes whole p legal within = tree_refutes m limits whole.tree [] p tt whole.done.refutes legal tt within

-- ---- few nodes

an_end : (m : Mill) (Rule : MarkRule) (path : List Decision) → IsUnfinished m Rule (End tt) path
an_end m Rule path = record { fresh = tt; splits = tt }

pub few_running : (m : Mill) (t : Search) → IsRunning m t → t.opened < most_nodes m
few_running m t run = omega (arith, run.opened, few_outlined m (HoldsCover m (opening_of t)) (limits_of t) t.path t.nodes (End tt) run.stands (an_end m (HoldsCover m (opening_of t)) t.path))

few_whole : (m : Mill) (Rule : MarkRule) (limits : Limits) (nodes : List Node) → IsWhole m Rule limits nodes → length nodes < most_nodes m
few_whole m Rule limits nodes whole = omega (arith, ap length whole.nodes_are, length-listing Closed (λ (mark : Mark) ask. Branched ask mark) whole.tree, nodes_most m _ whole.tree whole.done.refutes)

few_refused : (m : Mill) (limit : ℕ) (t : Search) → IsRefused m limit t → t.opened + 2 < most_nodes m
few_refused m limit t r =
    let split : IsUnfinished m (HoldsCover m (opening_of t)) (Split Bare r.ask (End tt) (End tt)) t.path =
    graft m (HoldsCover m (opening_of t)) Bare r.ask (End tt) (End tt) t.path (record { opened = r.asks; marked = tt }) (an_end m (HoldsCover m (opening_of t)) ((r.ask, true) ∷ t.path)) (an_end m (HoldsCover m (opening_of t)) ((r.ask, false) ∷ t.path)) in
    omega (arith, r.opened, few_outlined m (HoldsCover m (opening_of t)) (limits_of t) t.path t.nodes (Split Bare r.ask (End tt) (End tt)) r.stands split)

-- ---- the answer

-- what an answer leaves as it was
pub record IsHandedOut (old new : Search) : Type 0 where
  pub count : new.count ≡ old.count
  pub opening : new.opening ≡ old.opening
  pub nodes : new.nodes ≡ old.nodes
  pub opened : new.opened ≡ old.opened
  pub phase : new.phase ≡ old.phase

-- the tree old, which began as first, has ended, and its answer left the tree new
pub record IsEnding (m : Mill) (limit : ℕ) (first old new : Search) (e : Ended) : Type 0 where
  pub ended : IsEnded m limit first new e
  pub kept : IsHandedOut old new
  pub question : IsSameQuestion first new
  pub room : new.opened ≤ limit
  pub few : new.opened < most_nodes m

module _ (m : Mill) (limit : ℕ) (first old new : Search) (later : IsLater m first old) (start : IsBest m first.count first.loss first.best) where
  least : (p : Plan) → IsComplete m limit old → old.best ≡ Some p → IsLeast m first.count p
  least p done e =
      let best : IsBest m old.count old.loss (Some p) = subst (λ (o : Option Plan). IsBest m old.count old.loss o) e done.search.best in
      record {
        start = subst (λ (c : Option ℤ). IsStart m c p) later.count best.0;
        least = λ q legal count. not_below (sums_of m q).loss (sums_of m p).loss
            (λ within. nothing_within m (HoldsCover m (opening_of old)) (limits_of old) old.nodes done.tree.whole q legal
            (record { loss = subst (λ (a : Option ℤ). AtMost (Some (pos (sums_of m q).loss)) a) (sym best.1) within; count = subst (λ (c : Option ℤ). AtMost (Some (pos (sums_of m q).count)) c) (sym later.count) count }));
      }

  keeps : (p : Plan) → IsComplete m limit old → old.best ≡ Some p → KeepsBest m first.count first.best p
  keeps p done e b is least_b = elim later.best [
    | inl same ↦ same_plan (sym e ∙ same ∙ is)
    | inr better ↦ absurd (omega (arith, ints, less better, least_b.least p (start_of).legal (start_of).count))
  ]
    where
      same_plan : Some p ≡ Some b → p ≡ b
      same_plan w = cc

      start_of : IsStart m first.count p
      start_of = (least p done e).start

      less : IsSomeAnd old.best (λ q. AtMost (Some (pos (sums_of m q).loss)) first.loss) → pos (sums_of m p).loss ≤ℤ (pos (sums_of m b).loss -ℤ pos 1)
      less better =
          let mine : AtMost (Some (pos (sums_of m p).loss)) first.loss = subst (λ (o : Option Plan). IsSomeAnd o (λ q. AtMost (Some (pos (sums_of m q).loss)) first.loss)) e better in
          let at : IsBest m first.count first.loss (Some b) = subst (λ (o : Option Plan). IsBest m first.count first.loss o) is start in
          subst (λ (a : Option ℤ). AtMost (Some (pos (sums_of m p).loss)) a) at.1 mine

  -- a whole tree with another best plan
  handed_out : (b : Option Plan) → IsFinished m old → IsFinished m (record old { best = b })
  handed_out b done = record { limits = record { falls = done.limits.falls; loss = done.limits.loss; count = done.limits.count }; finished = done.finished; whole = done.whole; opened = done.opened }

  finished : (e : Ended) (done : IsComplete m limit old) (o : Option Plan) → old.best ≡ o → IsFinish Done o old new e → IsEnded m limit first new e
  finished e done None is h =
      let missing : old.loss ≡ None = subst (λ (o : Option Plan). IsBest m old.count old.loss o) is done.search.best in
      subst (λ (x : Ended). IsEnded m limit first new x) (sym h.0) (subst (λ (t : Search). EndsNoPlan m first t) (sym h.1) (record {
        none = λ p legal count. nothing_within m (HoldsCover m (opening_of old)) (limits_of old) old.nodes done.tree.whole p legal
            (record { loss = subst (λ (a : Option ℤ). AtMost (Some (pos (sums_of m p).loss)) a) (sym missing) tt; count = subst (λ (c : Option ℤ). AtMost (Some (pos (sums_of m p).count)) c) (sym later.count) count });
        tree = done.tree;
        loss = missing;
      }))
  finished e done (Some p) is h =
      let best : IsBest m old.count old.loss (Some p) = subst (λ (o : Option Plan). IsBest m old.count old.loss o) is done.search.best in
      subst (λ (x : Ended). IsEnded m limit first new x) (sym h.0) (subst (λ (t : Search). EndsLeast m first t p) (sym h.1) (record {
        least = least p done is;
        keeps = keeps p done is;
        tree = handed_out None done.tree;
        loss = best.1;
      }))

  refused_answer : (r : IsRefused m limit old) → (e : Ended) → IsFinish old.phase old.best old new e → (e ≡ Budget) × (new ≡ old)
  refused_answer r e finish = subst (λ (f : Phase). IsFinish f old.best old new e) r.refused finish

  ended : IsOver m limit old → (e : Ended) → IsFinish old.phase old.best old new e → IsEnded m limit first new e
  ended (inl done) e finish = finished e done old.best refl (subst (λ (f : Phase). IsFinish f old.best old new e) done.tree.finished finish)
  ended (inr refused) e finish =
      let h : (e ≡ Budget) × (new ≡ old) = refused_answer refused e finish in
      subst (λ (x : Ended). IsEnded m limit first new x) (sym h.0) (subst (λ (t : Search). EndsBudget m limit first t) (sym h.1) (record { tree = refused; later = later; below = omega (arith, few_refused m limit old refused, refused.full, refused.within) }))

  kept_ended : IsOver m limit old → (e : Ended) → IsFinish old.phase old.best old new e → IsHandedOut old new
  kept_ended (inl done) e finish = by old.best (subst (λ (f : Phase). IsFinish f old.best old new e) done.tree.finished finish)
    where
      by : (o : Option Plan) → IsFinish Done o old new e → IsHandedOut old new
      by None h = record { count = ap (λ (t : Search). t.count) h.1; opening = ap (λ (t : Search). t.opening) h.1; nodes = ap (λ (t : Search). t.nodes) h.1; opened = ap (λ (t : Search). t.opened) h.1; phase = ap (λ (t : Search). t.phase) h.1 }
      by (Some p) h = record { count = ap (λ (t : Search). t.count) h.1; opening = ap (λ (t : Search). t.opening) h.1; nodes = ap (λ (t : Search). t.nodes) h.1; opened = ap (λ (t : Search). t.opened) h.1; phase = ap (λ (t : Search). t.phase) h.1 }
  kept_ended (inr refused) e finish =
      let h : (e ≡ Budget) × (new ≡ old) = refused_answer refused e finish in
      record { count = ap (λ (t : Search). t.count) h.1; opening = ap (λ (t : Search). t.opening) h.1; nodes = ap (λ (t : Search). t.nodes) h.1; opened = ap (λ (t : Search). t.opened) h.1; phase = ap (λ (t : Search). t.phase) h.1 }

  few_over : IsOver m limit old → old.opened < most_nodes m
  few_over (inl done) = omega (arith, done.tree.opened, few_whole m (HoldsCover m (opening_of old)) (limits_of old) old.nodes done.tree.whole)
  few_over (inr refused) = omega (arith, few_refused m limit old refused)

  within_over : IsOver m limit old → old.opened ≤ limit
  within_over (inl done) = done.within
  within_over (inr refused) = refused.within

  pub ending_of : IsOver m limit old → (e : Ended) → IsFinish old.phase old.best old new e → IsEnding m limit first old new e
  ending_of over e finish =
      let kept : IsHandedOut old new = kept_ended over e finish in
      record {
        ended = ended over e finish;
        kept = kept;
        question = record { count = kept.count ∙ later.count; opening = kept.opening ∙ later.opening };
        room = omega (arith, kept.opened, within_over over);
        few = omega (arith, kept.opened, few_over over);
      }

-- a tree that is done isn't cut off
pub done_answers : (old new : Search) → old.phase ≡ Done → (e : Ended) → IsFinish old.phase old.best old new e → IsAnswer e
done_answers old new done e finish = by old.best (subst (λ (f : Phase). IsFinish f old.best old new e) done finish)
  where
    by : (o : Option Plan) → IsFinish Done o old new e → IsAnswer e
    by None h = subst (λ (x : Ended). IsAnswer x) (sym h.0) tt
    by (Some p) h = subst (λ (x : Ended). IsAnswer x) (sym h.0) tt

-- ---- the unfinished tree

covered_splits : {E : Type 0} (m : Mill) (limits : Limits) (t : Tree Mark E) (path : List Decision) → EverySplit (IsSplit m (HoldsCover m limits)) t path → EverySplit (λ mark _ decisions. HasCoverUnlessBare m limits mark decisions) t path
covered_splits m limits (End e) path h = tt
covered_splits m limits (Split mark ask left right) path h = (holds_cover m limits mark path h.0.marked, covered_splits m limits left ((ask, true) ∷ path) h.1, covered_splits m limits right ((ask, false) ∷ path) h.2)

pub cut_tree : (m : Mill) (limit : ℕ) (t : Search) (r : IsRefused m limit t) → IsCutTree m (opening_of t) limit (bare_count t.nodes) r.bare t.path (outline_of t)
cut_tree m limit t r =
    let rest : t.opened - length t.nodes ≡ suc (waiting t.path) = omega (arith, r.opened) in
    let ends : outline_of t ≡ map ask_of t.nodes ++ (None ∷ replicate (waiting t.path) None) = ap (λ (n : ℕ). map ask_of t.nodes ++ replicate n None) rest in
    let o : IsOutlineAt m (HoldsCover m (opening_of t)) t.path t.nodes (End tt) = opens m (HoldsCover m (opening_of t)) (limits_of t) t.path t.nodes (End tt) r.stands (an_end m (HoldsCover m (opening_of t)) t.path) in
    let list_is : outline_of t ≡ outline o.tree = ends ∙ sym o.outline_is in
    let count : tree_nodes o.tree ≡ t.opened = omega (arith, r.opened, outline_count m (HoldsCover m (opening_of t)) t.path t.nodes (End tt) o) in
    record {
      tree = o.tree;
      list_is = list_is;
      open_tree = subst (λ (l : List (Option Ask)). IsOpenTree m [] l) (sym list_is) (open_tree_of m (HoldsCover m (opening_of t)) o.tree o.unfinished);
      lean = lean m (HoldsCover m (opening_of t)) o.tree [] o.unfinished.splits;
      within = omega (arith, r.within);
      full = omega (arith, r.full);
      covered = covered_splits m (opening_of t) o.tree [] o.unfinished.splits;
      bare_splits = ap bare_marks (o.marks_are ∙ append-nil (marks_in t.nodes));
      has_end = o.ends t.path refl;
      covered_end = λ shown. cover_greater m (limits_of t) (opening_of t) t.path r.search.limits.falls (r.covered shown);
    }
