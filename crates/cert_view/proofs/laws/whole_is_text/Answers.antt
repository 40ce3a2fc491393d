use Rattle.cert_view.proofs.Buffers.{whole_is_text}
use Rattle.cert_view.proofs.laws.whole_is_text.Goals as goal

pub returns : goal.returns
returns c = whole_is_text
