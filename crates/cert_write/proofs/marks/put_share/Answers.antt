use Rattle.std.proofs.Common.{◌≡◌, ◌∙◌, to_z, of_z, w64}
use Rattle.std.specs.Prelude.{FitsSigned}
use Rattle.std.proofs.lemmas.Int.{to_z-of_z}
use Rattle.line_out.proofs.Putting.{puts_then}
use Rattle.line_out.proofs.Loops.{puts_same}
use Rattle.cert_write.proofs.Lines.{share_text}
use Rattle.cert_write.proofs.marks.put_share.Goals as goal

pub returns : goal.returns
returns g c =
    let share = c.args.share.now in
    let fits : FitsSigned w64 c.times.result = record { sfits = c.times.type_inv } in
    let times_are : to_z w64 (of_z w64 c.times.result) ≡ share.times = to_z-of_z w64 c.times.result fits ∙ c.times.ensures in
    puts_same _ _ _ _ (share_text share (to_z w64 (of_z w64 c.times.result)) c.kind.result c.orders.result.now times_are c.kind.ensures c.orders.ensures)
    (puts_then _ _ _ _ _ (puts_then _ _ _ _ _ c.put_share_kind.ensures c.put_orders.ensures) c.end_line.ensures)
