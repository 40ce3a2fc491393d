use Rattle.cert_text.proofs.Shown.{each_shows_one}
use Rattle.cert_text.proofs.laws.each_shows_one.Goals as goal

pub returns : goal.returns
returns c = each_shows_one
