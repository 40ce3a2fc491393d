use Rattle.cert_text.proofs.Shares.{shown_covers_have_shares}
use Rattle.cert_text.proofs.laws.shown_covers_have_shares.Goals as goal

pub returns : goal.returns
returns c = shown_covers_have_shares
