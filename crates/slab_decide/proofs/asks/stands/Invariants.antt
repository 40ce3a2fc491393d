use Rattle.std.proofs.Common.{take, Contains}
use Rattle.slab_decide.proofs.asks.stands.Given as goal

abbrev pub invariant-loop-decision : goal.invariant-loop-decision
invariant-loop-decision l = Contains (take l.decision-index l.list) (l.ask, l.yes) → ⊥
