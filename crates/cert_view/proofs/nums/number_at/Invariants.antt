use Rattle.std.proofs.Common.{◌≡◌, drop}
use Rattle.cert_view.specs.Numbers.{numbers_of, AreSpelled}
use Rattle.cert_view.proofs.nums.number_at.Given as goal

abbrev pub invariant-loop-skipped : goal.invariant-loop-skipped
invariant-loop-skipped l = AreSpelled l.rest × (numbers_of l.rest ≡ drop l._skipped (numbers_of l.bytes))
