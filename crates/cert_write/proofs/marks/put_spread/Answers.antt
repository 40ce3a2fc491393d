use Rattle.std.proofs.Common.{◌≡◌, ◌∙◌, to_z, of_z, w64}
use Rattle.std.specs.Prelude.{FitsSigned}
use Rattle.std.proofs.lemmas.Int.{to_z-of_z}
use Rattle.line_out.proofs.Putting.{puts_then}
use Rattle.line_out.proofs.Loops.{puts_same}
use Rattle.cert_write.proofs.Lines.{spread_text}
use Rattle.cert_write.proofs.marks.put_spread.Goals as goal

pub returns : goal.returns
returns g c =
    let shown = c.args.shown.now in
    let fits : FitsSigned w64 c.d.result = record { sfits = c.d.type_inv } in
    let d_is : to_z w64 (of_z w64 c.d.result) ≡ shown.d = to_z-of_z w64 c.d.result fits ∙ c.d.ensures in
    puts_same _ _ _ _ (spread_text shown (to_z w64 (of_z w64 c.d.result)) c.shares.result.now d_is c.shares.ensures)
    (puts_then _ _ _ _ _ (puts_then _ _ _ _ _ (puts_then _ _ _ _ _ c.put.ensures c.signed_number.ensures) c.end_line.ensures) c.put_shares.ensures)
