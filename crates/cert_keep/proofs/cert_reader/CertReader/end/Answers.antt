use Rattle.std.proofs.Common.{not, ap, subst, ◌∙◌}
use Rattle.cert_keep.specs.Certs.{CertReading, StandsAsCert}
use Rattle.cert_keep.specs.Parts.{gathered}
use Rattle.cert_keep.specs.Reads.{IsCertRead}
use Rattle.cert_keep.proofs.Limited.{is_within}
use Rattle.cert_keep.proofs.Meanings.{cert_means}
use Rattle.cert_keep.proofs.cert_reader.CertReader.end.Goals as goal

pub returns-clause-read : goal.returns-clause-read
returns-clause-read c = λ bytes.
    subst (λ (r : CertReading). StandsAsCert r bytes → IsCertRead r.gathered.reading.mill bytes c.what_was_read.result) c.self.view_is
    (λ h. c.what_was_read.ensures bytes (is_within (gathered c.self.inside.gatherer) c.self.inside.left bytes (c.is_none.ensures ∙ ap not c.if-is_none.false) h))

pub returns-clause-means : goal.returns-clause-means
returns-clause-means c = λ bytes h. cert_means c.args.self.gathered.reading.mill bytes c.what_was_read.result (returns-clause-read c bytes h)
