use Rattle.std.proofs.Common.{length, ◌-◌}
use Rattle.cert_check.proofs.Taking.{HasTakenTo}
use Rattle.cert_check.proofs.reader.Reader.feed.Given as goal

abbrev pub invariant-loop-at : goal.invariant-loop-at
invariant-loop-at l = HasTakenTo l.fn.self.reading l.self.reading l.piece l.at

abbrev pub decreases-loop-at : goal.decreases-loop-at
decreases-loop-at l = length l.piece - l.at
