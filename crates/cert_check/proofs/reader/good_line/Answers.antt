use Rattle.std.proofs.Common.{refl, sym, subst, IsNone}
use Rattle.cert_check.proofs.Ends.{part_is_unread}
use Rattle.cert_check.proofs.reader.good_line.Goals as goal

pub returns-in-None : goal.returns-in-None
returns-in-None c = sym (part_is_unread c.args.held.now (c.line.ensures.part.0 (subst IsNone (sym c.in-None.is) refl)))
