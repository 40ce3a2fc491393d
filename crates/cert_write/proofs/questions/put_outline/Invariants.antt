use Rattle.std.proofs.Common.{take, map}
use Rattle.cert_text.specs.Lines.{outline_line}
use Rattle.cert_text.specs.Texts.{lines_text}
use Rattle.line_out.specs.Puts.{Puts}
use Rattle.cert_write.proofs.questions.put_outline.Given as goal

abbrev pub invariant-loop-step : goal.invariant-loop-step
invariant-loop-step g l = Puts g.E.End.sends (lines_text (map outline_line (take l.step-index l.outline))) (l.initial.out, g.E.End.seen l.initial.desk) (l.out, g.E.End.seen l.desk)
