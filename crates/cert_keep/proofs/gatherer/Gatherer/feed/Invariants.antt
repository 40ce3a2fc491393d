use Rattle.std.proofs.Common.{◌≡◌, true, is_some, length, ◌-◌}
use Rattle.cert_keep.specs.Parts.{gathered}
use Rattle.cert_keep.proofs.Gathering.{GathersTo}
use Rattle.cert_keep.proofs.gatherer.Gatherer.feed.Given as goal

abbrev pub invariant-loop-at : goal.invariant-loop-at
invariant-loop-at l = record {
  to : GathersTo (gathered l.fn.self) (gathered l.self) l.piece l.at;
  stays : is_some l.fn.self.reader.reading.failed ≡ true → is_some l.self.reader.reading.failed ≡ true;
}

abbrev pub decreases-loop-at : goal.decreases-loop-at
decreases-loop-at l = length l.piece - l.at
