use Rattle.std.proofs.Common.{◌≡◌, length}
use Rattle.slabbench.proofs.calls.make_calls.Given as goal

abbrev pub invariant-rounds : goal.invariant-rounds
invariant-rounds l = record { orders : l.decisions.orders ≡ length l.mill.orders; yard : l.decisions.yard ≡ length l.mill.yard }

abbrev pub invariant-calls : goal.invariant-calls
invariant-calls l = record { orders : l.decisions.orders ≡ length l.mill.orders; yard : l.decisions.yard ≡ length l.mill.yard }
