-- What a checker says where a text has ended, and what this means.
use Rattle.std.proofs.Common.{◌≡◌, ℕ, List, [], ◌∷◌, length, reverse, None, refl, ap, subst, arith}
use Rattle.std.proofs.lemmas.List.{reverse-reverse}
use Rattle.mill_model.specs.declared.sums.Sums.{Sums}
use Rattle.mill_model.specs.Mill.{Mill, IsInLimits}
use Rattle.cert_rules.specs.States.{Wanted}
use Rattle.cert_rules.specs.States.Wanted.{All}
use Rattle.cert_rules.specs.States.Outcome.{Proved}
use Rattle.cert_rules.specs.States.State.{Begin, Ended}
use Rattle.cert_rules.specs.Turns.{after}
use Rattle.cert_rules.specs.Reading.{IsAccepted}
use Rattle.cert_rules.specs.Verdicts.{IsVerdict, LeadToTheFront, verdict_of}
use Rattle.cert_rules.specs.Verdicts.Verdict.{Front, NoPlan, CutOff}
use Rattle.mill_model.specs.Plans.{Plan, IsLegal}
use Rattle.mill_model.specs.Fronts.{IsFront}
use Rattle.cert_check.specs.declared.verdict.Verdict.{Verdict}
use Rattle.cert_check.specs.declared.verdict.Verdict.TheVariants as verdicts
use Rattle.cert_check.specs.Verdicts.{said_of, OnFront, OnNoPlan, OnCut}
use Rattle.cert_rules.proofs.Verdicts.{ends_are_verdicts, verdicts_hold}
use Rattle.cert_check.specs.declared.ending.Ending.{Ending}
use Rattle.cert_check.specs.Endings.{HasAccepted, outcome_of, points_of}
use Rattle.cert_check.specs.Readings.{Reading}

pub verdict_from : (r : Reading) (bytes : List ℕ) (ending : Ending) → r.wanted ≡ All → IsInLimits r.mill → HasAccepted r bytes ending → IsVerdict r.mill bytes (verdict_of (outcome_of ending) (points_of ending))
verdict_from r bytes ending all limits h =
    let accepted : IsAccepted r.mill All bytes h.lines = subst (λ (w : Wanted). IsAccepted r.mill w bytes h.lines) all h.accepted in
    let ends : after r.mill All Begin h.lines ≡ Ended (outcome_of ending) (reverse (points_of ending)) = subst (λ (w : Wanted). after r.mill w Begin h.lines ≡ Ended (outcome_of ending) (reverse (points_of ending))) all h.ends in
    subst (λ (ps : List Sums). IsVerdict r.mill bytes (verdict_of (outcome_of ending) ps)) (reverse-reverse (points_of ending)) (ends_are_verdicts r.mill bytes h.lines (outcome_of ending) (reverse (points_of ending)) limits accepted ends)

pub no_plan_from : (m : Mill) (bytes : List ℕ) (points : List Sums) → IsVerdict m bytes (verdict_of Proved points) → points ≡ [] → IsVerdict m bytes NoPlan
no_plan_from m bytes points h none = subst (λ (ps : List Sums). IsVerdict m bytes (verdict_of Proved ps)) none h

pub front_from : (m : Mill) (bytes : List ℕ) (points : List Sums) → IsVerdict m bytes (verdict_of Proved points) → (points ≡ [] → ⊥) → IsVerdict m bytes (Front points)
front_from m bytes [] h some = absurd (some refl)
front_from m bytes (x ∷ xs) h some = h

pub empty_from : (points : List Sums) → length points ≡ 0 → points ≡ []
empty_from [] e = refl
empty_from (x ∷ xs) e = absurd (omega (arith, e))

-- ---- what a verdict means

module _ (m : Mill) (bytes : List ℕ) where
  pub on_front : (v : Verdict) → IsVerdict m bytes (said_of v) → OnFront v (IsFront m)
  on_front (verdicts.Front points) h = verdicts_hold m bytes (Front points) h
  on_front verdicts.NoPlan h = tt
  on_front (verdicts.Cut points) h = tt
  on_front (verdicts.No line broken) h = tt

  pub on_no_plan : (v : Verdict) → IsVerdict m bytes (said_of v) → OnNoPlan v ((p : Plan) → IsLegal m p → ⊥)
  on_no_plan (verdicts.Front points) h = tt
  on_no_plan verdicts.NoPlan h = verdicts_hold m bytes NoPlan h
  on_no_plan (verdicts.Cut points) h = tt
  on_no_plan (verdicts.No line broken) h = tt

  pub on_cut : (v : Verdict) → IsVerdict m bytes (said_of v) → OnCut v (LeadToTheFront m None)
  on_cut (verdicts.Front points) h = tt
  on_cut verdicts.NoPlan h = tt
  on_cut (verdicts.Cut points) h = verdicts_hold m bytes (CutOff points) h
  on_cut (verdicts.No line broken) h = tt
