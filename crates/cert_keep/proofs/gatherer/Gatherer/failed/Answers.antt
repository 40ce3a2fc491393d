use Rattle.cert_keep.specs.Parts.{gathered}
use Rattle.cert_keep.proofs.Gathering.{as_reader}
use Rattle.cert_keep.proofs.gatherer.Gatherer.failed.Goals as goal

pub returns-clause-exact : goal.returns-clause-exact
returns-clause-exact c = λ bytes h. c.failed.ensures.exact bytes (as_reader c.args.self.now.reader.reading.wanted (gathered c.args.self.now) bytes h)
