use Rattle.std.proofs.Common.{◌≡◌, true, take}
use Rattle.mill_model.specs.Decisions.{column_agrees}
use Rattle.price_check.proofs.trail.agrees_with_all.Given as goal

abbrev pub invariant-loop-d : goal.invariant-loop-d
invariant-loop-d l = column_agrees (take l.d-index l.decisions) (record { kind = l.kind; orders = l.orders }) ≡ true
