use Rattle.std.proofs.Common.{◌↔◌, IsTrue, subst}
use Rattle.cert_rules.specs.States.{Wanted}
use Rattle.cert_rules.specs.States.Wanted.{Cuts}
use Rattle.cert_keep.specs.Gathering.{Gathered, Gathers}
use Rattle.cert_keep.specs.Parts.{gathered}
use Rattle.cert_check.specs.Readings.{HasBadLine}
use Rattle.cert_keep.proofs.cut_reader.CutReader.failed.Goals as goal

pub returns-clause-exact : goal.returns-clause-exact
returns-clause-exact c = λ bytes.
    subst (λ (g : Gathered). Gathers Cuts g bytes → IsTrue c.failed.result ↔ HasBadLine Cuts g.reading.mill bytes) c.self.view_is
    (subst (λ (w : Wanted). Gathers w (gathered c.self.inside.gatherer) bytes → IsTrue c.failed.result ↔ HasBadLine w c.self.inside.gatherer.reader.reading.mill bytes) c.self.invariant (c.failed.ensures.exact bytes))
