use Rattle.std.proofs.Common.{length}
use Rattle.price_check.specs.Apartness.{AreMarkedApart}
use Rattle.price_check.proofs.apart.fill_apart.Given as goal

abbrev pub invariant-loop-ask : goal.invariant-loop-ask
invariant-loop-ask l = AreMarkedApart l.trail.decisions (length l.heads) l.apart
