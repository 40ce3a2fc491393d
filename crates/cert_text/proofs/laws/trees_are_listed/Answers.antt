use Rattle.cert_text.proofs.Listing.{trees_are_listed}
use Rattle.cert_text.proofs.laws.trees_are_listed.Goals as goal

pub returns : goal.returns
returns c = trees_are_listed
