use Rattle.mill_model.proofs.MarkLaws.{marked_refutation, plain_refutation}
use Rattle.mill_model.proofs.laws.plain_marks_claim_nothing.Goals as goal

pub returns : goal.returns
returns c = λ m limits decisions s each plain. (marked_refutation m limits decisions s, plain_refutation m limits decisions s each plain)
