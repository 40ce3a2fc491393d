use Rattle.front_check.proofs.Grammar.{first_wrong_of_check_is_told}
use Rattle.front_check.proofs.laws.first_wrong_of_check_is_told.Goals as goal

pub returns : goal.returns
returns c = first_wrong_of_check_is_told
