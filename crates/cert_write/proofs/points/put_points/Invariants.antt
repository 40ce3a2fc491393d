use Rattle.std.proofs.Common.{take}
use Rattle.std.specs.List.{flat_map}
use Rattle.cert_text.specs.Lines.{point_lines}
use Rattle.cert_text.specs.Texts.{lines_text}
use Rattle.line_out.specs.Puts.{Puts}
use Rattle.cert_write.proofs.points.put_points.Given as goal

abbrev pub invariant-loop-point : goal.invariant-loop-point
invariant-loop-point g l = Puts g.E.End.sends (lines_text (flat_map (point_lines l.version) (take l.point-index l.points))) (l.initial.out, g.E.End.seen l.initial.desk) (l.out, g.E.End.seen l.desk)
