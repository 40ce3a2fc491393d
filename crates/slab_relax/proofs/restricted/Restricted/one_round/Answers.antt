use Rattle.std.proofs.Common.{◌∙◌, pos, ◌<ℤ◌, subst}
use Rattle.slab_price.specs.Excess.{IsGreatest, IsWorst, column_of}
use Rattle.slab_relax.specs.Masters.{AreFarkas}
use Rattle.slab_relax.proofs.Steps.{farkas_sign, farkas_refutes, is_stranger}
use Rattle.slab_relax.proofs.restricted.Restricted.one_round.Goals as goal

pub worst-requires-clause-lambda : goal.worst-requires-clause-lambda
worst-requires-clause-lambda c =
    let farkas : AreFarkas c.args.node.now.mill.now c.args.node.now.limits c.solve.new.self c.in-Some.prices = rw c.in-Some.is at c.in_ok-scaled.ensures.some in
    farkas_sign c.args.node.now.mill.now c.args.node.now.limits c.solve.new.self c.args.node.now.decisions.now.list c.args.pool.now.columns c.in-Some.prices (c.solve.ensures.given ∙ c.requires.restricted.given) farkas

pub returns-in-None-2-clause-holds : goal.returns-in-None-2-clause-holds
returns-in-None-2-clause-holds c =
    let farkas : AreFarkas c.args.node.now.mill.now c.args.node.now.limits c.solve.new.self c.in-Some.prices = rw c.in-Some.is at c.in_ok-scaled.ensures.some in
    let greatest : IsGreatest c.args.node.now.mill.now c.args.node.now.decisions.now.list c.in-Some.prices (pos 0) = rw c.in-None-2.is at c.in_ok-found.ensures.none in
    farkas_refutes c.args.node.now.mill.now c.args.node.now.limits c.solve.new.self c.args.node.now.decisions.now.list c.args.pool.now.columns c.in-Some.prices (c.solve.ensures.given ∙ c.requires.restricted.given) farkas greatest

pub widen-answer-requires-clause-stranger : goal.widen-answer-requires-clause-stranger
widen-answer-requires-clause-stranger c =
    let farkas : AreFarkas c.args.node.now.mill.now c.args.node.now.limits c.solve.new.self c.in-Some.prices = rw c.in-Some.is at c.in_ok-scaled.ensures.some in
    let worst : IsWorst c.args.node.now.mill.now c.args.node.now.decisions.now.list c.in-Some.prices c.in-Some-2.found = rw c.in-Some-2.is at c.in_ok-found.ensures.some in
    is_stranger c.args.node.now.mill.now c.args.node.now.limits c.solve.new.self c.args.node.now.decisions.now.list c.args.pool.now.columns c.in-Some.prices (c.solve.ensures.given ∙ c.requires.restricted.given) farkas (column_of c.in-Some-2.found) worst.found.legal worst.found.agrees
    (subst (λ z. pos 0 <ℤ z) worst.found.excess_is worst.found.above)
