use Rattle.mill_read.proofs.OrderGrammar.{order_file_is}
use Rattle.mill_read.proofs.laws.order_files_spell_mills.Goals as goal

pub returns : goal.returns
returns c = order_file_is
