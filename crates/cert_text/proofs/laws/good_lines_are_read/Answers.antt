use Rattle.cert_text.proofs.Readable.{good_lines_are_read}
use Rattle.cert_text.proofs.laws.good_lines_are_read.Goals as goal

pub returns : goal.returns
returns c = good_lines_are_read
