use Rattle.mill_read.proofs.YardOffences.{yard_files_are_refused_for_first_offences}
use Rattle.mill_read.proofs.laws.yard_files_are_refused_for_first_offences.Goals as goal

pub returns : goal.returns
returns c = yard_files_are_refused_for_first_offences
