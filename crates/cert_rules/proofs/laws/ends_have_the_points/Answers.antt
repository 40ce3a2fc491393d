use Rattle.cert_rules.proofs.Wholes.{ends_have_the_points}
use Rattle.cert_rules.proofs.laws.ends_have_the_points.Goals as goal

pub returns : goal.returns
returns c = ends_have_the_points
