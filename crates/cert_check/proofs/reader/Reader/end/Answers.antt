use Rattle.std.proofs.Common.{◌<◌, length, sym, subst, ◌∙◌, ap}
use Rattle.cert_rules.specs.Reading.{number_after}
use Rattle.cert_check.specs.declared.failure.Failure.{Failure}
use Rattle.cert_check.specs.declared.line_why.LineWhy.TheVariants as carried
use Rattle.cert_check.specs.Held.{Reader, IsOver}
use Rattle.cert_check.proofs.Ends.{not_both, ends_failed, ends_with_part, ends_unended}
use Rattle.cert_check.proofs.reader.Reader.end.Goals as goal

pub returns-in-Some-clause-bad : goal.returns-in-Some-clause-bad
returns-in-Some-clause-bad c bytes h = ends_failed c.args.self.reading bytes c.in-Some.failure (ap (λ (r : Reader). r.reading.failed) (sym c.self.view_is) ∙ c.in-Some.is) h

pub returns-in-None-clause-bad : goal.returns-in-None-clause-bad
returns-in-None-clause-bad c bytes h =
    let at : (r : Reader) → Failure = λ r. record { line = number_after r.reading.count; why = carried.Spelling } in
    ends_with_part c.args.self.reading bytes (ap (λ (r : Reader). r.reading.failed) (sym c.self.view_is) ∙ c.in-None.is) c.failure_after.result
    (subst (λ (r : Reader). 0 < length r.reading.held) c.self.view_is (c.has_part-part.ensures.0 c.if-part.true))
    (c.failure_after.ensures ∙ ap at c.self.view_is) h

pub returns-in-None-2-clause-bad : goal.returns-in-None-2-clause-bad
returns-in-None-2-clause-bad c bytes h =
    let at : (r : Reader) → Failure = λ r. record { line = number_after r.reading.count; why = carried.End } in
    ends_unended c.args.self.reading bytes (ap (λ (r : Reader). r.reading.failed) (sym c.self.view_is) ∙ c.in-None-2.is)
    (λ some. not_both c.has_part-part.result c.if-part.false (c.has_part-part.ensures.1 (subst (λ (r : Reader). 0 < length r.reading.held) (sym c.self.view_is) some)))
    c.failure_after-in-None-2.result
    (λ over. not_both c.is_over-over.result c.if-not-over.true (c.is_over-over.ensures.1 (subst IsOver (sym (c.phase.ensures ∙ ap (λ (r : Reader). r.reading.kept.phase) c.self.view_is)) over)))
    (c.failure_after-in-None-2.ensures ∙ ap at c.self.view_is) h
