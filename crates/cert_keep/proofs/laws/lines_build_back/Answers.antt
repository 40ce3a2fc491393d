use Rattle.cert_keep.proofs.Rebuilding.{lines_build_back}
use Rattle.cert_keep.proofs.laws.lines_build_back.Goals as goal

pub returns : goal.returns
returns c = lines_build_back
