use Rattle.std.proofs.Common.{map}
use Rattle.std.specs.List.{range_with_len}
use Rattle.mill_model.specs.Plans.{slab}
use Rattle.cert_text.specs.Lines.{slab_line}
use Rattle.cert_text.specs.Texts.{lines_text}
use Rattle.line_out.specs.Puts.{Puts}
use Rattle.cert_write.proofs.slabs.put_slabs.Given as goal

abbrev pub invariant-loop-k : goal.invariant-loop-k
invariant-loop-k g l = Puts g.E.End.sends (lines_text (map slab_line (map (slab l.plan) (range_with_len 0 l.k)))) (l.initial.out, g.E.End.seen l.initial.desk) (l.out, g.E.End.seen l.desk)
