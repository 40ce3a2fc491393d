use Rattle.std.proofs.Common.{take}
use Rattle.std.specs.List.{flat_map}
use Rattle.line_out.specs.Puts.{Puts}
use Rattle.mill_report.specs.Reports.{sums_text}
use Rattle.mill_report.proofs.summary.put_points.Given as goal

abbrev pub invariant-loop-point : goal.invariant-loop-point
invariant-loop-point g l = Puts g.E.End.sends (flat_map sums_text (take l.point-index l.points)) (l.initial.out, g.E.End.seen l.initial.desk) (l.out, g.E.End.seen l.desk)
