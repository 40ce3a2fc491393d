use Rattle.std.proofs.Common.{◌≡◌, List, length, sym, ap, subst, ◌∙◌}
use Rattle.std.proofs.lemmas.Bool.{eqb-true, eqb-false}
use Rattle.mill_model.specs.declared.sums.Sums.{Sums}
use Rattle.cert_rules.specs.States.Outcome.{Proved, Unfinished}
use Rattle.cert_rules.specs.Verdicts.{IsVerdict, verdict_of}
use Rattle.cert_rules.specs.Verdicts.Verdict.{Front, NoPlan, CutOff}
use Rattle.cert_check.specs.declared.ending.Ending.{Ending}
use Rattle.cert_check.specs.declared.ending.Ending.TheVariants as endings
use Rattle.cert_check.specs.Endings.{HasAccepted}
use Rattle.cert_check.specs.Readings.{Reading, Stands}
use Rattle.cert_check.specs.declared.verdict.Verdict.TheVariants as verdicts
use Rattle.cert_check.proofs.Checked.{verdict_from, no_plan_from, front_from, empty_from, on_front, on_no_plan, on_cut}
use Rattle.cert_check.proofs.checker.Checker.end.Goals as goal

pub returns-in-Ok-Unfinished-clause-verdict : goal.returns-in-Ok-Unfinished-clause-verdict
returns-in-Ok-Unfinished-clause-verdict c = λ bytes stands.
    let r : Reading = c.self.inside.reader.reading in
    let points : List Sums = c.in-Ok-Unfinished.points in
    let is : c.in-Ok-Unfinished.field-0 ≡ endings.Unfinished points = cc in
    let accepted : HasAccepted r bytes (endings.Unfinished points) = subst (λ (e : Ending). HasAccepted r bytes e) is (c.in-Ok-Unfinished.ensures.accepted bytes (subst (λ (x : Reading). Stands x bytes) (sym c.self.view_is) stands)) in
    let h : IsVerdict r.mill bytes (verdict_of Unfinished points) = verdict_from r bytes (endings.Unfinished points) c.self.invariant c.in-Ok-Unfinished.ensures.limits accepted in
    subst (λ (x : Reading). IsVerdict x.mill bytes (CutOff points)) c.self.view_is (h)

pub returns-then-is_empty-clause-verdict : goal.returns-then-is_empty-clause-verdict
returns-then-is_empty-clause-verdict c = λ bytes stands.
    let r : Reading = c.self.inside.reader.reading in
    let points : List Sums = c.in-Ok-Proved.points in
    let is : c.in-Ok-Proved.field-0 ≡ endings.Proved points = cc in
    let accepted : HasAccepted r bytes (endings.Proved points) = subst (λ (e : Ending). HasAccepted r bytes e) is (c.in-Ok-Proved.ensures.accepted bytes (subst (λ (x : Reading). Stands x bytes) (sym c.self.view_is) stands)) in
    let h : IsVerdict r.mill bytes (verdict_of Proved points) = verdict_from r bytes (endings.Proved points) c.self.invariant c.in-Ok-Proved.ensures.limits accepted in
    subst (λ (x : Reading). IsVerdict x.mill bytes NoPlan) c.self.view_is (no_plan_from r.mill bytes points h (empty_from points (sym (ap (λ (ps : List Sums). length ps) c.list.ensures) ∙ eqb-true (length c.list.result.now) 0 (sym c.is_empty.ensures ∙ c.if-is_empty.true))))

pub returns-else-is_empty-clause-verdict : goal.returns-else-is_empty-clause-verdict
returns-else-is_empty-clause-verdict c = λ bytes stands.
    let r : Reading = c.self.inside.reader.reading in
    let points : List Sums = c.in-Ok-Proved.points in
    let is : c.in-Ok-Proved.field-0 ≡ endings.Proved points = cc in
    let accepted : HasAccepted r bytes (endings.Proved points) = subst (λ (e : Ending). HasAccepted r bytes e) is (c.in-Ok-Proved.ensures.accepted bytes (subst (λ (x : Reading). Stands x bytes) (sym c.self.view_is) stands)) in
    let h : IsVerdict r.mill bytes (verdict_of Proved points) = verdict_from r bytes (endings.Proved points) c.self.invariant c.in-Ok-Proved.ensures.limits accepted in
    subst (λ (x : Reading). IsVerdict x.mill bytes (Front points)) c.self.view_is (front_from r.mill bytes points h (λ none. eqb-false (length c.list.result.now) 0 (sym c.is_empty.ensures ∙ c.if-is_empty.false) (ap (λ (ps : List Sums). length ps) (c.list.ensures ∙ none))))

-- ---- what it means

pub returns-in-Ok-Unfinished-clause-cut : goal.returns-in-Ok-Unfinished-clause-cut
returns-in-Ok-Unfinished-clause-cut c = λ bytes stands. on_cut c.args.self.mill bytes (verdicts.Cut c.in-Ok-Unfinished.points) (returns-in-Ok-Unfinished-clause-verdict c bytes stands)

pub returns-then-is_empty-clause-no_plan : goal.returns-then-is_empty-clause-no_plan
returns-then-is_empty-clause-no_plan c = λ bytes stands. on_no_plan c.args.self.mill bytes verdicts.NoPlan (returns-then-is_empty-clause-verdict c bytes stands)

pub returns-else-is_empty-clause-front : goal.returns-else-is_empty-clause-front
returns-else-is_empty-clause-front c = λ bytes stands. on_front c.args.self.mill bytes (verdicts.Front c.in-Ok-Proved.points) (returns-else-is_empty-clause-verdict c bytes stands)
