use Rattle.std.proofs.Common.{[], ◌∷◌, sym, ap}
use Rattle.mill_model.specs.declared.version.Version.{Version}
use Rattle.cert_text.specs.Lines.{header_line}
use Rattle.cert_text.specs.Texts.{lines_text}
use Rattle.line_out.proofs.Loops.{puts_same}
use Rattle.cert_write.proofs.certificate.put_header.Goals as goal

pub returns-in-One : goal.returns-in-One
returns-in-One g c = puts_same _ _ _ _ (ap (λ (v : Version). lines_text (header_line v ∷ [])) (sym c.in-One.is)) c.put.ensures

pub returns-in-Two : goal.returns-in-Two
returns-in-Two g c = puts_same _ _ _ _ (ap (λ (v : Version). lines_text (header_line v ∷ [])) (sym c.in-Two.is)) c.put-in-Two.ensures
