-- A mill whose starter tells a plan without loss, with fewer new slabs than which all is plainly refuted.
use Rattle.std.proofs.Common.{◌≡◌, ◌+◌, ◌≤◌, ℤ, pos, List, [], ◌∷◌, refl, sym, ap, subst, ◌∙◌, inl, arith, Option, Some, None}
use Rattle.std.specs.Prelude.{IfSome}
use Rattle.std.proofs.lemmas.Int.{ints}
use Rattle.mill_model.specs.declared.sums.Sums.{Sums}
use Rattle.mill_model.specs.declared.limits.Limits.{Limits}
use Rattle.mill_model.specs.Mill.{Mill, IsInLimits}
use Rattle.mill_model.specs.Plans.{Plan, sums_of}
use Rattle.mill_model.specs.Limits.{AtMost}
use Rattle.mill_model.specs.Plain.{IsPlainlyRefuted}
use Rattle.mill_model.specs.Starts.{IsStart, IsAsTold}
use Rattle.mill_model.specs.Fronts.{Point, last_sums}
use Rattle.slab_tree.specs.Counts.{Counts}
use Rattle.slab_tree.specs.Searches.{IsLeast, KeepsBest}
use Rattle.slab_tree.proofs.Limits.{at_most_refl, plain_smaller}
use Rattle.slab_tree.proofs.Plainly.{none_within}
use Rattle.slab_sweep.specs.Openings.{Telling, count_after, limits_of_rest}
use Rattle.slab_sweep.specs.Made.{IsFound}
use Rattle.slab_sweep.specs.Placing.{placed}
use Rattle.slab_sweep.specs.Progress.{StandsPlainly}
use Rattle.slab_sweep.specs.Questions.{opening_of}
use Rattle.slab_sweep.specs.Swept.{IsToldPlainly}

-- ---- the two questions

lossless_refuted : (m : Mill) (p : Plan) (count : Option ℤ) → (sums_of m p).loss ≡ 0 → IsPlainlyRefuted m (opening_of m count (Some p))
lossless_refuted m p count none = inl (omega (arith, ints, none))

module _ (told : Telling) (m : Mill) (t : IsToldPlainly told m) (count : Option ℤ) (best : Option Plan) (as_told : IsAsTold told m count best) (old now : Counts) where
  -- at the first question
  told_best : count ≡ None → best ≡ Some t.plan
  told_best e =
      let answered : best ≡ t.answers m count = subst (λ (x : Telling). IsAsTold x m count best) t.tells as_told in
      answered ∙ ap (t.answers m) e ∙ t.answer

  -- below the told plan's count
  fewer_refuted : (before : Sums) → before ≡ sums_of m t.plan → count ≡ count_after (Some before) → IsPlainlyRefuted m (opening_of m count best)
  fewer_refuted before same e =
      let at : count ≡ count_after (Some (sums_of m t.plan)) = e ∙ ap (λ (s : Sums). count_after (Some s)) same in
      plain_smaller m (opening_of m count best) (limits_of_rest (Some (sums_of m t.plan)))
      (record { loss = tt; count = subst (λ (c : Option ℤ). AtMost count c) at (at_most_refl count) })
      t.refuted

  pub plainly_opens : (points : List Point) → StandsPlainly m t.plan points old now → count ≡ count_after (last_sums None points) → IsPlainlyRefuted m (opening_of m count best)
  plainly_opens [] stands e = subst (λ (b : Option Plan). IsPlainlyRefuted m (opening_of m count b)) (sym (told_best e)) (lossless_refuted m t.plan count t.lossless)
  plainly_opens (point ∷ []) stands e = fewer_refuted point.sums stands.0 e
  plainly_opens (first ∷ next ∷ points) stands e = absurd stands

  -- the told plan is found first, and then none
  pub plainly_placed : (points : List Point) (point : Point) (new : Counts) → IsInLimits m → IfSome best (IsStart m count) → StandsPlainly m t.plan points old now → count ≡ count_after (last_sums None points) → IsFound m (opening_of m count best) point → KeepsBest m count best point.plan → new.opened ≤ now.opened + 1 → StandsPlainly m t.plan (placed points point) old new
  plainly_placed [] point new limited start stands e found keeps one =
      let is : best ≡ Some t.plan = told_best e in
      let least : IsLeast m count t.plan = record { start = subst (λ (b : Option Plan). IfSome b (IsStart m count)) is start; least = λ q legal within. omega (arith, t.lossless) } in
      (sym found.sums ∙ ap (sums_of m) (keeps t.plan is least), omega (arith, stands, one))
  plainly_placed (last ∷ []) point new limited start stands e found keeps one =
      absurd (none_within m (limits_of_rest (Some (sums_of m t.plan))) point.plan limited t.refuted found.least.start.legal
      (record { loss = tt; count = subst (λ (c : Option ℤ). AtMost (Some (pos (sums_of m point.plan).count)) c) (e ∙ ap (λ (s : Sums). count_after (Some s)) stands.0) found.least.start.count }))
  plainly_placed (first ∷ next ∷ points) point new limited start stands e found keeps one = absurd stands

-- so far one node at most was opened
pub plainly_one : (m : Mill) (plan : Plan) (points : List Point) (old now : Counts) → StandsPlainly m plan points old now → now.opened ≤ old.opened + 1
plainly_one m plan [] old now stands = omega (arith, stands)
plainly_one m plan (point ∷ []) old now stands = stands.1
plainly_one m plan (first ∷ next ∷ points) old now stands = absurd stands
