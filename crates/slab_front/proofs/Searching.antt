-- What a sweep answers is what a search finds.
use Rattle.std.proofs.Common.{◌≡◌, ℕ, ◌+◌, ◌*◌, ◌<◌, ◌≤◌, ◌⊎◌, inl, inr, List, [], ◌∷◌, length, Option, Some, None, refl, sym, ap, ◌∙◌, subst, arith}
use Rattle.std.specs.List.{AllByRecursion}
use Rattle.std.proofs.lemmas.Nat.{mul-le}
use Rattle.slab_counter.specs.Counter.{last_count}
use Rattle.mill_model.specs.declared.sums.Sums.{Sums}
use Rattle.mill_model.specs.declared.version.Version.TheVariants.{Two}
use Rattle.mill_model.specs.Mill.{Mill, IsInLimits}
use Rattle.mill_model.specs.Plans.{Plan}
use Rattle.mill_model.specs.Starts.{IsStart}
use Rattle.mill_model.specs.Trees.{most_nodes}
use Rattle.mill_model.specs.Marks.{MarkedSteps}
use Rattle.mill_model.specs.Fronts.{Point, IsPoint, IsGoodFrom, IsGoodHead, sums_list}
use Rattle.slab_relax.specs.declared.tally.Tally.{Tally}
use Rattle.slab_relax.specs.Tallies.{HaveCauses}
use Rattle.slab_tree.specs.Counts.{Counts}
use Rattle.slab_tree.specs.Marking.{bare_marks}
use Rattle.slab_sweep.specs.declared.swept.Swept.{Swept}
use Rattle.slab_sweep.specs.declared.swept.Swept.TheVariants.{Complete, NoPlan, Budget}
use Rattle.slab_sweep.specs.Counting.{questions_left, OpensFew, CountsNodes, CountsBares}
use Rattle.slab_sweep.specs.Openings.{Telling}
use Rattle.slab_sweep.specs.Made.{nodes_of, bares_of}
use Rattle.slab_sweep.proofs.Progress.{few_left}
use Rattle.slab_sweep.specs.Swept.{AreWithin, HasTreesWithin, IsSwept, IsSweptAtOnce, IsToldPlainly, made_nodes, added_to}
use Rattle.slab_start.specs.FirstFit.{first_fit, place_orders, by_weight}
use Rattle.slab_filling.specs.Closing.{plan_of_filled}
use Rattle.slab_start.specs.Made.{made_mill}
use Rattle.slab_start.proofs.Started.{first_fit_starts}
use Rattle.slab_lns.specs.Rounds.{told_after_rounds, plan_after_rounds}
use Rattle.slab_lns.proofs.PlainRounds.{stays_plain}
use Rattle.slab_start.proofs.MadePlain.{made_is_plain}
use Rattle.mill_model.specs.Columns.{Column}
use Rattle.std.specs.Option.{option_map}
use Rattle.slab_start.specs.Plain.{IsPlainMill}
use Rattle.cert_text.specs.Certificates.{IsGood, ShowsFront, ShowsNoPlan, ShowsCut, AreMarksOf, finished_trees}
use Rattle.cert_text.specs.Certificates.Ending.{Whole, Cut}
use Rattle.cert_text.specs.Texts.{certificate_text}
use Rattle.cert_text.proofs.Shown.{what_is_shown_holds}
use Rattle.cert_rules.specs.Verdicts.Verdict.{CutOff}
use Rattle.cert_rules.proofs.Verdicts.{verdicts_hold}
use Rattle.slab_front.specs.Words.{most_limit}
use Rattle.slab_front.specs.Searched.{Searched, certificate_of, status_of, status_with, end_word, ending_nodes, IsCounted, HasPlan, attained, FindsFront, IsSearched}
use Rattle.slab_front.specs.Searches.{searched}

-- no node was opened yet
abbrev pub start : ℕ → Counts
start limit = record { limit = limit; opened = 0; bare = 0 }

-- ---- counts

few_questions : (m : Mill) (before : List Point) → IsInLimits m → IsGoodHead m before → questions_left m before ≤ 252
few_questions m before limits good = omega (arith, limits.order_count, few_left m before good)

-- so few nodes are opened that their count doesn't come to its end
below_end : (m : Mill) (before : List Point) (limit : ℕ) (new : Counts) → IsInLimits m → IsGoodHead m before → limit ≤ most_limit
    → OpensFew m (questions_left m before) (start limit) new → new.opened < last_count
below_end m before limit new limits good fits opens =
    omega (arith, opens.limited, mul-le (questions_left m before) limit 252 1000000000000000 (few_questions m before limits good) fits)

is_reached : (made count : ℕ) → count < last_count → (0 + made ≤ count) ⊎ (last_count ≤ count) → made ≤ count
is_reached made count below (inl h) = omega arith
is_reached made count below (inr h) = absurd (omega arith)

counted : (m : Mill) (before : List Point) (limit last_bares : ℕ) (was is : Tally) (new : Counts) (s : Searched)
    → IsInLimits m → IsGoodHead m before → limit ≤ most_limit → s.opened ≡ new.opened → s.bare ≡ new.bare
    → OpensFew m (questions_left m before) (start limit) new → HaveCauses 0 was s.bare is → new.bare ≤ new.opened
    → CountsNodes (nodes_of (added_to before s.points) + ending_nodes s.ending) (start limit) new
    → CountsBares (bares_of (added_to before s.points) + last_bares) (start limit) new was is
    → AreWithin limit (added_to before s.points) × (ending_nodes s.ending ≤ limit)
    → IsCounted m before limit last_bares was is s
counted m before limit last_bares was is new s limits good fits opened bare opens causes among nodes bares within =
    let end : new.opened < last_count = below_end m before limit new limits good fits opens in
    record {
      within = within.0;
      last_within = within.1;
      limited = omega (arith, opened, opens.limited);
      bounded = omega (arith, opened, opens.bounded);
      nodes = omega (arith, opened, is_reached (nodes_of (added_to before s.points) + ending_nodes s.ending) new.opened end nodes);
      bares = omega (arith, bare, is_reached (bares_of (added_to before s.points) + last_bares) new.bare (omega (arith, end, among)) bares.counted);
      among = omega (arith, opened, bare, among);
      causes = causes;
    }

-- ---- certificates

plans_of : (m : Mill) (before : Option Sums) (points : List Point) → IsGoodFrom m before points → AllByRecursion (IsPoint m) (attained points)
plans_of m before [] good = tt
plans_of m before (point ∷ points) (good, later) =
    (record { legal = good.legal; order = good.order; sums = good.sums }, plans_of m (Some point.sums) points later)

some_plan : (m : Mill) (points : List Point) → IsGoodHead m points → 0 < length points → HasPlan m
some_plan m [] good some = absurd (omega arith)
some_plan m (point ∷ points) (good, later) some = (point.plan, good.legal)

-- version 2 asks nothing of marks
free_marks : (trees : List MarkedSteps) → AllByRecursion (λ (s : MarkedSteps). AreMarksOf Two s.marks) trees
free_marks [] = tt
free_marks (s ∷ trees) = (tt, free_marks trees)

-- ---- answers

complete_status : (points : List Point) (last : MarkedSteps) → 0 < length points → status_with (end_word points (Whole last)) ≡ 0
complete_status [] last some = absurd (omega arith)
complete_status (point ∷ points) last some = refl

cut_status : (points : List Point) (rest : List (Option _)) → status_with (end_word points (Cut rest)) ≡ 3
cut_status [] rest = refl
cut_status (point ∷ points) rest = refl

first_of_filled : (m : Mill) (filled : Option (List Column)) (plan : Plan) → IsInLimits m → place_orders m None (by_weight m) [] ≡ filled
    → option_map (plan_of_filled m) filled ≡ Some plan → IsStart m None plan
first_of_filled m None plan limits placed is = absurd (cc is)
first_of_filled m (Some slabs) plan limits placed is =
    subst (λ (p : Plan). IsStart m None p) (same_plan (plan_of_filled m slabs) plan is) (first_fit_starts m None slabs limits refl placed)
  where
    same_plan : (a b : Plan) → Some a ≡ Some b → a ≡ b
    same_plan a b e = cc e

-- the first-fit plan is legal, in order and within the limit
first_is_start : (m : Mill) (plan : Plan) → IsInLimits m → first_fit m None ≡ Some plan → IsStart m None plan
first_is_start m plan limits is = first_of_filled m (place_orders m None (by_weight m) []) plan limits refl is

-- where no point was found, no tree was added
none_before : (before : List Point) (f : List Point → ℕ) (x : ℕ) → before ≡ [] → f [] ≡ 0 → x ≡ f (added_to before []) + x
none_before [] f x e zero = omega (arith, zero)
none_before (point ∷ points) f x e zero = cc

none_within : (before : List Point) (limit : ℕ) → before ≡ [] → AreWithin limit (added_to before [])
none_within [] limit e = tt
none_within (point ∷ points) limit e = cc

-- of a plain mill first fit tells a plan without loss
pub told_plainly : (m : Mill) → IsPlainMill m → IsToldPlainly (Some first_fit) m
told_plainly m plain = record {
  plan = plain.plan;
  answers = first_fit;
  tells = refl;
  answer = plain.first;
  lossless = plain.loss;
  refuted = plain.refuted;
}

-- and so it does after rounds
pub told_after : (rounds seed : ℕ) (m : Mill) → IsInLimits m → IsPlainMill m → IsToldPlainly (told_after_rounds rounds seed (Some first_fit)) m
told_after rounds seed m limits plain =
    let stays = stays_plain m plain.plan rounds seed limits (first_is_start m plain.plan limits plain.first) plain.loss plain.refuted in
    record {
      plan = plan_after_rounds rounds seed m None plain.plan;
      answers = λ x limit. option_map (plan_after_rounds rounds seed x limit) (first_fit x limit);
      tells = refl;
      answer = ap (option_map (plan_after_rounds rounds seed m None)) plain.first;
      lossless = stays.loss;
      refuted = stays.refuted;
    }

-- the same rounds with the same seed tell the same
pub same_told : (rounds seed other number : ℕ) → rounds ≡ other → seed ≡ number → told_after_rounds rounds seed (Some first_fit) ≡ told_after_rounds other number (Some first_fit)
same_told rounds seed other number e f =
    ap (λ (n : ℕ). told_after_rounds n seed (Some first_fit)) e ∙ ap (λ (n : ℕ). told_after_rounds other n (Some first_fit)) f

few_nodes : (m : Mill) (limit : ℕ) → limit + 2 ≤ most_nodes m → limit < (length m.orders + 2) * most_nodes m
few_nodes m limit few = omega (arith, mul-le 1 (most_nodes m) (length m.orders + 2) (most_nodes m) (omega arith) (omega arith))

pub found : (told : Telling) (m : Mill) (before : List Point) (limit : ℕ) (was is : Tally) (new : Counts) (swept : Swept)
    → (IsPlainMill m → IsToldPlainly told m) → IsInLimits m → IsGoodHead m before → limit ≤ most_limit
    → IsSwept told m before (start limit) new was is swept
    → CountsNodes (made_nodes before swept) (start limit) new → HasTreesWithin limit before swept
    → (IsToldPlainly told m → before ≡ [] → IsSweptAtOnce (start limit) new swept)
    → OpensFew m (questions_left m before) (start limit) new → HaveCauses 0 was new.bare is → new.bare ≤ new.opened
    → IsSearched told m before limit was is (status_of (searched swept new.opened new.bare)) (searched swept new.opened new.bare)
found told m before limit was is new (Complete front) tells limits given fits (whole, bares) nodes within plain opens causes among =
    let s : Searched = searched (Complete front) new.opened new.bare in
    let good : IsGood m (certificate_of s) = record { ended = whole.good; marks = free_marks (finished_trees (certificate_of s)) } in
    let shows : ShowsFront m (certificate_of s) = record { good = good; whole = tt; some = whole.some } in
    inl (
      complete_status front.points front.last whole.some,
      record {
        plan = some_plan m front.points whole.good.head whole.some;
        points = record { front = (what_is_shown_holds m (certificate_of s)).0 shows; plans = plans_of m None front.points whole.good.head };
        shows = shows;
        checked = (certificate_of s, refl, (shows, refl));
        goes_on = whole.goes_on;
        last = front.last;
        ending = refl;
        made = whole.rest;
        counts = counted m before limit (bare_marks front.last.marks) was is new s limits given fits refl refl opens causes among nodes bares within;
      },
    )
found told m before limit was is new (NoPlan last) tells limits given fits (nothing, bares) nodes within plain opens causes among =
    let s : Searched = searched (NoPlan last) new.opened new.bare in
    let good : IsGood m (certificate_of s) = record { ended = nothing.good; marks = free_marks (finished_trees (certificate_of s)) } in
    let shows : ShowsNoPlan m (certificate_of s) = record { good = good; whole = tt; none = refl } in
    inr (inr (
      refl,
      record {
        none = λ plan. (what_is_shown_holds m (certificate_of s)).1 shows plan.0 plan.1;
        unplain = λ is_plain. (what_is_shown_holds m (certificate_of s)).1 shows is_plain.plan (first_is_start m is_plain.plan limits is_plain.first).legal;
        points = refl;
        shows = shows;
        checked = (certificate_of s, refl, shows);
        last = last;
        ending = refl;
        made = nothing.rest;
        counts = counted m before limit (bare_marks last.marks) was is new s limits given fits refl refl opens causes among
            (subst (λ (x : ℕ). CountsNodes x (start limit) new) (none_before before nodes_of (length last.steps) nothing.none refl) nodes)
            (subst (λ (x : ℕ). CountsBares x (start limit) new was is) (none_before before bares_of (bare_marks last.marks) nothing.none refl) bares)
            (none_within before limit nothing.none, within);
      },
    ))
found told m before limit was is new (Budget points rest) tells limits given fits (some, off, bares) nodes within plain opens causes among =
    let s : Searched = searched (Budget points rest) new.opened new.bare in
    let good : IsGood m (certificate_of s) = record {
      ended = record { head = off.head; rest = off.cut.cut.open_tree };
      marks = free_marks (finished_trees (certificate_of s));
    } in
    let shows : ShowsCut m (certificate_of s) = record { good = good; cut = tt } in
    inr (inl (
      cut_status points rest,
      record {
        leads = verdicts_hold m (certificate_text (certificate_of s)) (CutOff (sums_list points)) (certificate_of s, refl, (shows, refl));
        shows = shows;
        checked = (certificate_of s, refl, (shows, refl));
        goes_on = off.goes_on;
        rest = rest;
        ending = refl;
        bares = some;
        cut = off.cut;
        below = few_nodes m limit off.cut.few;
        unplain = λ empty is_plain. (plain (tells is_plain) empty).answer;
        counts = counted m before limit some was is new s limits given fits refl refl opens causes among nodes bares within;
      },
    ))

-- the same from the calls of a search
pub found_from : (told : Telling) (m : Mill) (before : List Point) (limit : ℕ) (was is : Tally) (old new : Counts) (swept : Swept) (opened bare : ℕ)
    → (IsPlainMill m → IsToldPlainly told m) → old ≡ start limit → opened ≡ new.opened → bare ≡ new.bare → IsInLimits m → IsGoodHead m before → limit ≤ most_limit
    → IsSwept told m before old new was is swept
    → CountsNodes (made_nodes before swept) old new → HasTreesWithin old.limit before swept
    → (IsToldPlainly told m → before ≡ [] → IsSweptAtOnce old new swept)
    → OpensFew m (questions_left m before) old new → HaveCauses old.bare was new.bare is → new.bare ≤ new.opened
    → IsSearched told m before limit was is (status_of (searched swept opened bare)) (searched swept opened bare)
found_from told m before limit was is old new swept opened bare tells eo e1 e2 limits good fits swept_is nodes within plain opens causes among =
    subst (λ (x : ℕ). IsSearched told m before limit was is (status_of (searched swept x bare)) (searched swept x bare)) (sym e1)
    (subst (λ (y : ℕ). IsSearched told m before limit was is (status_of (searched swept new.opened y)) (searched swept new.opened y)) (sym e2)
    (found told m before limit was is new swept tells limits good fits
    (subst (λ (n : Counts). IsSwept told m before n new was is swept) eo swept_is)
    (subst (λ (n : Counts). CountsNodes (made_nodes before swept) n new) eo nodes)
    (subst (λ (n : Counts). HasTreesWithin n.limit before swept) eo within)
    (λ plainly empty. subst (λ (n : Counts). IsSweptAtOnce n new swept) eo (plain plainly empty))
    (subst (λ (n : Counts). OpensFew m (questions_left m before) n new) eo opens)
    (subst (λ (n : Counts). HaveCauses n.bare was new.bare is) eo causes) among))

-- a made mill has a front
pub made_found : (orders seed limit : ℕ) (was is : Tally) (m : Mill) (before : List Point) (s : Searched) → m ≡ made_mill orders seed → before ≡ []
    → IsSearched (Some first_fit) m before limit was is (status_of s) s → (status_of s ≡ 0) × FindsFront (Some first_fit) (made_mill orders seed) [] limit was is s
made_found orders seed limit was is m before s made none found =
    only (subst (λ (x : Mill). IsSearched (Some first_fit) x [] limit was is (status_of s) s) made
    (subst (λ (ps : List Point). IsSearched (Some first_fit) m ps limit was is (status_of s) s) none found))
  where
    only : IsSearched (Some first_fit) (made_mill orders seed) [] limit was is (status_of s) s
        → (status_of s ≡ 0) × FindsFront (Some first_fit) (made_mill orders seed) [] limit was is s
    only (inl (zero, front)) = (zero, front)
    only (inr (inl (three, cut))) = absurd (cut.unplain refl (made_is_plain orders seed).plain)
    only (inr (inr (four, none))) = absurd (none.unplain (made_is_plain orders seed).plain)
