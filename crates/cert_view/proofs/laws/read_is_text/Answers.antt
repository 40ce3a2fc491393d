use Rattle.cert_view.proofs.Feeds.{read_is_text}
use Rattle.cert_view.proofs.laws.read_is_text.Goals as goal

pub returns : goal.returns
returns c = read_is_text
