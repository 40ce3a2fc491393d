use Rattle.std.proofs.Common.{◌≡◌}
use Rattle.slabbench.proofs.calls.decide_all.Given as goal

abbrev pub invariant-decisions : goal.invariant-decisions
invariant-decisions l = record { orders : l.decisions.orders ≡ l.fn.decisions.orders; yard : l.decisions.yard ≡ l.fn.decisions.yard }
