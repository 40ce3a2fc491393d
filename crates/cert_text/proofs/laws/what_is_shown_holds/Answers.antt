use Rattle.cert_text.proofs.Shown.{what_is_shown_holds}
use Rattle.cert_text.proofs.laws.what_is_shown_holds.Goals as goal

pub returns : goal.returns
returns c = what_is_shown_holds
