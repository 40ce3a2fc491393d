-- What one question's tree shows when its run has ended.
use Rattle.std.proofs.Common.{◌≡◌, ℕ, ◌+◌, ◌-◌, ◌≤◌, ℤ, Bool, List, [], length, map, replicate, refl, sym, ap, subst, ◌∙◌, inl, inr, arith, Option, Some, None, length-append}
use Rattle.std.specs.Prelude.{◌⊎◌}
use Rattle.std.proofs.lemmas.Bool.{cases_lt}
use Rattle.std.proofs.lemmas.List.{length-map, length-replicate}
use Rattle.slab_counter.specs.Counter.{last_count}
use Rattle.mill_model.specs.declared.ask.Ask.{Ask}
use Rattle.mill_model.specs.declared.limits.Limits.{Limits}
use Rattle.mill_model.specs.Mill.{Mill}
use Rattle.mill_model.specs.Plans.{Plan, sums_of}
use Rattle.mill_model.specs.Marks.{MarkedSteps}
use Rattle.slab_relax.specs.Tallies.{AreNoLess, HasCause, HaveCauses}
use Rattle.slab_relax.specs.declared.tally.Tally.{Tally}
use Rattle.slab_tree.specs.declared.tree.Phase.TheVariants.{Refused}
use Rattle.slab_tree.specs.Counts.{Counts, AreRaised}
use Rattle.slab_tree.specs.Marking.{ShowsCoverUnlessBare, bare_marks}
use Rattle.slab_tree.specs.Searches.{Search, IsBest, IsNew, IsFinished, IsRefused, IsLeast, KeepsBest, HasNoPlan, EndsLeast, EndsNoPlan, EndsBudget, HasBareEnd, IsSameQuestion, bare_count, limits_of, opening_of as tree_opening, outline_of, loss_below}
use Rattle.slab_tree.specs.Standing.{IsWhole}
use Rattle.slab_tree.specs.Steps.{IsTightRefutation}
use Rattle.slab_tree.specs.Tightening.{IsTightened}
use Rattle.slab_tree.specs.Unfinished.{IsCutTree, ask_of}
use Rattle.slab_sweep.specs.Openings.{loss_below_plan}
use Rattle.slab_sweep.specs.Questions.{opening_of, AreCounted}
use Rattle.slab_sweep.specs.Made.{IsMade, IsFound, IsNothing, IsCut}

-- ---- a tightened tree

pub made_of : (m : Mill) (old new : Search) (s : MarkedSteps) → IsFinished m old → IsTightened m old new → ((limits : Limits) → IsWhole m (ShowsCoverUnlessBare m limits) limits new.nodes → IsTightRefutation m limits s) → IsMade m (tree_opening old) (limits_of old) s
made_of m old new s done tight shows =
    let same : limits_of new ≡ limits_of old = λ i. record { loss = tight.same.loss i; count = tight.same.count i } in
    record {
      tight = shows (limits_of old) (subst (λ (l : Limits). IsWhole m (ShowsCoverUnlessBare m l) l new.nodes) same tight.tight.whole);
      falls = done.limits.falls;
    }

-- ---- the opening limits

best_loss : (m : Mill) (count loss : Option ℤ) (best : Option Plan) → IsBest m count loss best → loss ≡ loss_below_plan m best
best_loss m count loss None h = h
best_loss m count loss (Some p) h = h.1

pub opens_with : (m : Mill) (count : Option ℤ) (best : Option Plan) (first last : Search) → IsNew m first → first.count ≡ count → first.best ≡ best → first.loss ≡ first.opening → IsSameQuestion first last → tree_opening last ≡ opening_of m count best
opens_with m count best first last new counts bests losses same =
    let loss : last.opening ≡ loss_below_plan m best = same.opening ∙ sym losses ∙ best_loss m first.count first.loss first.best new.search.best ∙ ap (loss_below_plan m) bests in
    λ i. record { loss = loss i; count = (same.count ∙ counts) i }

-- ---- the counts

-- all that a new tree gained was counted
module _ (old mid : Counts) (first last : Search) (none : first.nodes ≡ []) (zero_opened : first.opened ≡ 0) (raised : AreRaised old mid first.opened last.opened (bare_count first.nodes) (bare_count last.nodes)) where
  none_bare : bare_count first.nodes ≡ 0
  none_bare = ap bare_count none

  nodes_counted : (old.opened + last.opened ≤ mid.opened) ⊎ (last_count ≤ mid.opened)
  nodes_counted = elim (cases_lt (old.opened + last.opened) last_count) [ inl lt ↦ inl (omega (arith, raised.opened)) | inr ge ↦ inr (omega (arith, raised.opened)) ]

  bares_counted : (old.bare + bare_count last.nodes ≤ mid.bare) ⊎ (last_count ≤ mid.bare)
  bares_counted = elim (cases_lt (old.bare + bare_count last.nodes) last_count) [ inl lt ↦ inl (omega (arith, raised.bare, none_bare)) | inr ge ↦ inr (omega (arith, raised.bare, none_bare)) ]

  pub finished_counted : (new : Counts) (was half is : Tally) (s : MarkedSteps) (m : Mill) → IsFinished m last → length s.steps ≤ length last.nodes → new.opened ≡ mid.opened → mid.bare ≤ new.bare
      → (bare_marks s.marks + mid.bare ≤ bare_count last.nodes + new.bare) ⊎ (last_count ≤ new.bare)
      → AreNoLess was half → HaveCauses 0 half (bare_marks s.marks) is → AreCounted (length s.steps) (bare_marks s.marks) old new was is
  finished_counted new was half is s m done fewer same rises counted later causes = record {
    opened = elim nodes_counted [ inl h ↦ inl (omega (arith, done.opened)) | inr h ↦ inr (omega arith) ];
    marked = record { counted = bares counted bares_counted; causes = sooner causes };
  }
    where
      bares : (bare_marks s.marks + mid.bare ≤ bare_count last.nodes + new.bare) ⊎ (last_count ≤ new.bare) → (old.bare + bare_count last.nodes ≤ mid.bare) ⊎ (last_count ≤ mid.bare) → (old.bare + bare_marks s.marks ≤ new.bare) ⊎ (last_count ≤ new.bare)
      bares (inl u) (inl v) = inl (omega arith)
      bares (inl u) (inr v) = inr (omega arith)
      bares (inr u) v = inr u

      sooner : HaveCauses 0 half (bare_marks s.marks) is → HaveCauses 0 was (bare_marks s.marks) is
      sooner (inl u) = inl (omega arith)
      sooner (inr u) = inr u

  -- an unfinished tree has as many nodes as were opened for it
  pub refused_few : (rest : List (Option Ask)) (m : Mill) (limit : ℕ) → IsRefused m limit last → rest ≡ outline_of last → length rest ≤ last.opened
  refused_few rest m limit refused outline = omega (arith, refused.opened, ap length outline, length-append (map ask_of last.nodes) (replicate (last.opened - length last.nodes) None), length-map last.nodes ask_of, length-replicate {A = Option Ask} (last.opened - length last.nodes) None)

  pub refused_counted : (was is : Tally) (rest : List (Option Ask)) (m : Mill) (limit : ℕ) → IsRefused m limit last → rest ≡ outline_of last → HaveCauses (bare_count first.nodes) was (bare_count last.nodes) is → AreCounted (length rest) (bare_count last.nodes) old mid was is
  refused_counted was is rest m limit refused outline causes = record {
    opened = elim nodes_counted [ inl h ↦ inl (omega (arith, refused_few rest m limit refused outline)) | inr h ↦ inr h ];
    marked = record { counted = bares_counted; causes = subst (λ (n : ℕ). HaveCauses n was (bare_count last.nodes) is) none_bare causes };
  }

-- ---- the answers

module _ (m : Mill) (count : Option ℤ) (best : Option Plan) (first last : Search) (counts : first.count ≡ count) (bests : first.best ≡ best) (same : IsSameQuestion first last) (opens : tree_opening last ≡ opening_of m count best) where
  limits_are : (loss : Option ℤ) → last.loss ≡ loss → limits_of last ≡ record { loss = loss; count = count }
  limits_are loss e = λ i. record { loss = e i; count = (same.count ∙ counts) i }

  made_for : (loss : Option ℤ) (s : MarkedSteps) → last.loss ≡ loss → IsMade m (tree_opening last) (limits_of last) s → IsMade m (opening_of m count best) (record { loss = loss; count = count }) s
  made_for loss s e made = subst (λ (o : Limits). IsMade m o (record { loss = loss; count = count }) s) opens (subst (λ (l : Limits). IsMade m (tree_opening last) l s) (limits_are loss e) made)

  pub found_of : (p : Plan) (s : MarkedSteps) → EndsLeast m first last p → IsMade m (tree_opening last) (limits_of last) s → IsFound m (opening_of m count best) (record { sums = sums_of m p; plan = p; steps = s })
  found_of p s ends made = record {
    least = subst (λ (c : Option ℤ). IsLeast m c p) counts ends.least;
    sums = refl;
    tree = made_for (loss_below m p) s ends.loss made;
  }

  pub keeps_best : (p : Plan) → EndsLeast m first last p → KeepsBest m count best p
  keeps_best p ends b is least = ends.keeps b (bests ∙ is) (subst (λ (c : Option ℤ). IsLeast m c b) (sym counts) least)

  pub nothing_of : (s : MarkedSteps) → EndsNoPlan m first last → IsMade m (tree_opening last) (limits_of last) s → IsNothing m (opening_of m count best) s
  nothing_of s ends made = record { none = subst (λ (c : Option ℤ). HasNoPlan m c) counts ends.none; tree = made_for None s ends.loss made }

  pub cut_of : (limit : ℕ) (rest : List (Option Ask)) (old new : Tally) → (ends : EndsBudget m limit first last) → (HasBareEnd last → HasCause old new) → IsCutTree m (tree_opening last) limit (bare_count last.nodes) ends.tree.bare last.path rest → IsCut m (opening_of m count best) limit (bare_count last.nodes) old new rest
  cut_of limit rest old new ends bare_end cut = record {
    bare_end = ends.tree.bare;
    path = last.path;
    cut = subst (λ (o : Limits). IsCutTree m o limit (bare_count last.nodes) ends.tree.bare last.path rest) opens cut;
    cause = λ bare. bare_end (ends.tree.refused ∙ ap (λ (b : Bool). Refused b) bare);
    few = ends.below;
  }
