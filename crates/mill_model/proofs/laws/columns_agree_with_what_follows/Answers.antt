use Rattle.mill_model.proofs.Agreement.{column_follows}
use Rattle.mill_model.proofs.laws.columns_agree_with_what_follows.Goals as goal

pub returns : goal.returns
returns c = column_follows
