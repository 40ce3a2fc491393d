use Rattle.cert_rules.proofs.Standing.{new_stands_for_nothing, pieces_are_taken, ends_are_right}
use Rattle.cert_rules.proofs.laws.readers_stand.Goals as goal

pub returns-clause-new : goal.returns-clause-new
returns-clause-new c = new_stands_for_nothing

pub returns-clause-pieces : goal.returns-clause-pieces
returns-clause-pieces c = pieces_are_taken

pub returns-clause-end : goal.returns-clause-end
returns-clause-end c = ends_are_right
