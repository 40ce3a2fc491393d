use Rattle.std.proofs.Common.{drop}
use Rattle.cert_write.proofs.OnTheWay.{IsOnTheWay, rest_text}
use Rattle.cert_write.proofs.trees.put_steps.Given as goal

abbrev pub invariant-loop-step : goal.invariant-loop-step
invariant-loop-step g l = IsOnTheWay g.E.End.sends (rest_text l.version l.steps l.marks) (rest_text l.version (drop l.step-index l.steps) l.left) (l.initial.out, g.E.End.seen l.initial.desk) (l.out, g.E.End.seen l.desk)
