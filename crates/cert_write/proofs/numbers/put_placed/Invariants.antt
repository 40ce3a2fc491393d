use Rattle.std.proofs.Common.{take, map}
use Rattle.mill_model.specs.Plans.{places_of}
use Rattle.cert_view.specs.Text.{numbers_text}
use Rattle.cert_text.specs.Lines.{number}
use Rattle.line_out.specs.Puts.{Puts}
use Rattle.cert_write.proofs.numbers.put_placed.Given as goal

abbrev pub invariant-loop-order : goal.invariant-loop-order
invariant-loop-order g l = Puts g.E.End.sends (numbers_text (map number (places_of l.k 0 (take l.order l.place)))) (l.initial.out, g.E.End.seen l.initial.desk) (l.out, g.E.End.seen l.desk)
