use Rattle.mill_read.proofs.PlanOffences.{plan_files_are_refused_for_first_offences}
use Rattle.mill_read.proofs.laws.plan_files_are_refused_for_first_offences.Goals as goal

pub returns : goal.returns
returns c = plan_files_are_refused_for_first_offences
