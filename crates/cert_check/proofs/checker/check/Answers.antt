use Rattle.std.proofs.Common.{[], subst, ◌∙◌}
use Rattle.mill_model.specs.Mill.{Mill}
use Rattle.cert_rules.specs.Verdicts.{IsVerdict}
use Rattle.cert_check.specs.Verdicts.{said_of}
use Rattle.cert_check.proofs.Checked.{on_front, on_no_plan, on_cut}
use Rattle.cert_check.proofs.checker.check.Goals as goal

pub returns-clause-front : goal.returns-clause-front
returns-clause-front c =
    let h = subst (λ (m : Mill). IsVerdict m c.args.bytes.now (said_of c.end.result)) (c.feed.ensures.mill ∙ c.in_ok-checker.ensures.mill) (c.end.ensures.verdict c.args.bytes.now (c.feed.ensures.stands [] c.in_ok-checker.ensures.stands)) in
    on_front c.args.mill.now c.args.bytes.now c.end.result h

pub returns-clause-no_plan : goal.returns-clause-no_plan
returns-clause-no_plan c =
    let h = subst (λ (m : Mill). IsVerdict m c.args.bytes.now (said_of c.end.result)) (c.feed.ensures.mill ∙ c.in_ok-checker.ensures.mill) (c.end.ensures.verdict c.args.bytes.now (c.feed.ensures.stands [] c.in_ok-checker.ensures.stands)) in
    on_no_plan c.args.mill.now c.args.bytes.now c.end.result h

pub returns-clause-cut : goal.returns-clause-cut
returns-clause-cut c =
    let h = subst (λ (m : Mill). IsVerdict m c.args.bytes.now (said_of c.end.result)) (c.feed.ensures.mill ∙ c.in_ok-checker.ensures.mill) (c.end.ensures.verdict c.args.bytes.now (c.feed.ensures.stands [] c.in_ok-checker.ensures.stands)) in
    on_cut c.args.mill.now c.args.bytes.now c.end.result h
