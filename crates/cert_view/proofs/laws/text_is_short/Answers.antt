use Rattle.cert_view.proofs.Feeds.{text_is_short}
use Rattle.cert_view.proofs.laws.text_is_short.Goals as goal

pub returns : goal.returns
returns c = text_is_short
