use Rattle.std.proofs.Common.{take, map}
use Rattle.cert_text.specs.Lines.{share_line}
use Rattle.cert_text.specs.Texts.{lines_text}
use Rattle.line_out.specs.Puts.{Puts}
use Rattle.cert_write.proofs.marks.put_shares.Given as goal

abbrev pub invariant-loop-share : goal.invariant-loop-share
invariant-loop-share g l = Puts g.E.End.sends (lines_text (map share_line (take l.share-index l.shares))) (l.initial.out, g.E.End.seen l.initial.desk) (l.out, g.E.End.seen l.desk)
