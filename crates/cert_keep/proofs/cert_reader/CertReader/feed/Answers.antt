use Rattle.std.proofs.Common.{◌++◌, not, ap, subst, ◌∙◌}
use Rattle.cert_rules.specs.States.{Wanted}
use Rattle.cert_keep.specs.Gathering.{Gathers}
use Rattle.cert_keep.specs.Certs.{CertReading, StandsAsCert}
use Rattle.cert_keep.specs.Parts.{gathered}
use Rattle.cert_keep.proofs.Limited.{long_after, within_after}
use Rattle.cert_keep.proofs.cert_reader.CertReader.feed.Goals as goal

pub returns-then-is_none-clause-stands : goal.returns-then-is_none-clause-stands
returns-then-is_none-clause-stands c = λ bytes.
    subst (λ (r : CertReading). StandsAsCert r bytes → StandsAsCert (record { gathered = gathered c.self.inside.gatherer; left = c.left_after-left.result }) (bytes ++ c.args.piece.now)) c.self.view_is
    (long_after (gathered c.self.inside.gatherer) (gathered c.self.inside.gatherer) c.self.inside.left c.left_after-left.result c.args.piece.now bytes c.left_after-left.ensures (c.is_none.ensures ∙ ap not c.if-is_none.true))

pub returns-clause-stands : goal.returns-clause-stands
returns-clause-stands c = λ bytes.
    subst (λ (r : CertReading). StandsAsCert r bytes → StandsAsCert (record { gathered = gathered c.feed.new.self; left = c.left_after-left.result }) (bytes ++ c.args.piece.now)) c.self.view_is
    (within_after (gathered c.self.inside.gatherer) (gathered c.feed.new.self) c.self.inside.left c.left_after-left.result c.args.piece.now bytes c.left_after-left.ensures (c.is_none.ensures ∙ ap not c.if-is_none.false)
    (subst (λ (w : Wanted). Gathers w (gathered c.self.inside.gatherer) bytes → Gathers w (gathered c.feed.new.self) (bytes ++ c.args.piece.now)) c.self.invariant (c.in-Ok.ensures.stands bytes)))
