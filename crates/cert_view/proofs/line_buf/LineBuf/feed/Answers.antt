use Rattle.std.proofs.Common.{rules, ◌≡◌, length, arith}
use Rattle.cert_view.proofs.Buffers.{one_line-taken}
use Rattle.cert_view.proofs.line_buf.LineBuf.feed.Goals as goal

pub invariant_of-self : goal.invariant_of-self
invariant_of-self c =
    let held : c.self.inside.len ≡ length c.args.self.now = search rules in
    record {
      within = search rules;
      one_line = rw (c.append-len.ensures.bytes, c.self.view_is) (one_line-taken _ _ _ c.requires.no_feed (omega (arith, c.taken_of-taken.ensures, held)) (omega (arith, c.taken_of-taken.ensures, held)));
    }
