use Rattle.std.proofs.Common.{take}
use Rattle.cert_view.specs.Text.{numbers_text}
use Rattle.line_out.specs.Puts.{Puts}
use Rattle.cert_write.proofs.numbers.put_numbers.Given as goal

abbrev pub invariant-loop-number : goal.invariant-loop-number
invariant-loop-number g l = Puts g.E.End.sends (numbers_text (take l.number-index l.numbers)) (l.initial.out, g.E.End.seen l.initial.desk) (l.out, g.E.End.seen l.desk)
