use Rattle.std.proofs.Common.{List, drop, ◌+◌, sym, subst}
use Rattle.mill_model.specs.declared.mark.Mark.{Mark}
use Rattle.cert_write.proofs.OnTheWay.{IsOnTheWay, rest_text, step_more}
use Rattle.cert_write.proofs.trees.put_steps.Goals as goal

pub loop-step-preserved : goal.loop-step-preserved
loop-step-preserved g c =
    let steps = c.args.steps.now in
    let i = c.loop-step.step-index in
    subst (λ (left : List Mark). IsOnTheWay g.E.End.sends (rest_text c.args.version steps c.args.marks.now) (rest_text c.args.version (drop (i + 1) steps) left) (c.args.out.now, g.E.End.seen c.args.desk.now) (c.put_step.new.out, g.E.End.seen c.put_step.new.desk))
    (sym c.after-left.ensures)
    (step_more c.args.version _ steps i c.step-item.result c.step-item.result c.loop-step.left.now _ _ _ c.loop-step-test.true (sym c.step-item.is) c.loop-step.invariant c.put_step.ensures)
