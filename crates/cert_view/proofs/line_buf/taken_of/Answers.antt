use Rattle.std.proofs.Common.{arith}
use Rattle.cert_view.proofs.Buffers.{place_of_front, place_within}
use Rattle.cert_view.proofs.line_buf.taken_of.Goals as goal

pub returns : goal.returns
returns c =
    omega (arith, c.position_or_len.ensures.value, place_of_front c.min-most.result c.args.piece.now, place_within c.args.piece.now)
