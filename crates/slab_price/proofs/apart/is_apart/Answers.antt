use Rattle.std.proofs.Common.{get_or}
use Rattle.std.proofs.lemmas.Bool.{OnTrue_at}
use Rattle.pricing_laws.proofs.Parts.{has_at}
use Rattle.slab_price.proofs.apart.is_apart.Goals as goal

pub are_apart-requires-clause-one : goal.are_apart-requires-clause-one
are_apart-requires-clause-one c = c.requires.others (get_or c.args.others.now c.loop-other.other-index 0) (has_at c.args.others.now c.loop-other.other-index c.loop-other-test.true)

pub returns-then-are_apart : goal.returns-then-are_apart
returns-then-are_apart c = (get_or c.args.others.now c.loop-other.other-index 0, has_at c.args.others.now c.loop-other.other-index c.loop-other-test.true, OnTrue_at c.if-are_apart.true c.are_apart.ensures)
