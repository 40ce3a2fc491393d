use Rattle.std.proofs.Common.{[], ◌∙◌, subst}
use Rattle.mill_model.specs.Mill.{Mill}
use Rattle.cert_rules.specs.States.{Wanted}
use Rattle.cert_keep.specs.Gathering.{Gathers}
use Rattle.cert_keep.specs.Parts.{gathered}
use Rattle.cert_keep.specs.Reads.{IsCertRead}
use Rattle.cert_keep.proofs.Meanings.{cert_means}
use Rattle.cert_keep.proofs.whole.read_cert.Goals as goal

pub returns-in-Ok-clause-read : goal.returns-in-Ok-clause-read
returns-in-Ok-clause-read c =
    subst (λ (m : Mill). IsCertRead m c.args.bytes.now c.what_was_read.result) (c.feed.ensures.mill ∙ c.in_ok-gatherer.ensures.mill)
    (c.what_was_read.ensures c.args.bytes.now
    (subst (λ (w : Wanted). Gathers w (gathered c.in_ok-gatherer.gatherer) [] → Gathers w (gathered c.feed.new.self) c.args.bytes.now) c.in_ok-gatherer.ensures.wanted (c.in-Ok.ensures.stands []) c.in_ok-gatherer.ensures.stands))

pub returns-in-Ok-clause-means : goal.returns-in-Ok-clause-means
returns-in-Ok-clause-means c = cert_means c.args.mill.now c.args.bytes.now c.what_was_read.result (returns-in-Ok-clause-read c)
