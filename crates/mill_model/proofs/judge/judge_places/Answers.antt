use Rattle.std.proofs.Common.{rules}
use Rattle.mill_model.proofs.Rules.{first_place, no_place}
use Rattle.mill_model.proofs.judge.judge_places.Goals as goal

pub returns-then-place-slabs-clause-first : goal.returns-then-place-slabs-clause-first
returns-then-place-slabs-clause-first c = first_place c.args.mill.now c.args.plan.now c.loop-order.order (search rules) (search rules) (search rules) (search rules)

pub returns-clause-first : goal.returns-clause-first
returns-clause-first c = no_place c.args.mill.now c.args.plan.now (search rules) (λ j h. rw (← c.kinds-slabs.ensures) (c.loop-order.invariant j (search rules)))
