use Rattle.mill_read.proofs.YardGrammar.{yard_file_is}
use Rattle.mill_read.proofs.laws.yard_files_spell_yards.Goals as goal

pub returns : goal.returns
returns c = yard_file_is
