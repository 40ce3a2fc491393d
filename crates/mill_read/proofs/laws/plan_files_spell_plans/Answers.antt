use Rattle.mill_read.proofs.PlanGrammar.{plan_file_is}
use Rattle.mill_read.proofs.laws.plan_files_spell_plans.Goals as goal

pub returns : goal.returns
returns c = plan_file_is
