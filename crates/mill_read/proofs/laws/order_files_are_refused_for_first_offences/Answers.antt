use Rattle.mill_read.proofs.OrderOffences.{order_files_are_refused_for_first_offences}
use Rattle.mill_read.proofs.laws.order_files_are_refused_for_first_offences.Goals as goal

pub returns : goal.returns
returns c = order_files_are_refused_for_first_offences
