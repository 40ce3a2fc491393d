use Rattle.cert_view.proofs.Feeds.{text_is_read}
use Rattle.cert_view.proofs.laws.text_is_read.Goals as goal

pub returns : goal.returns
returns c = text_is_read
