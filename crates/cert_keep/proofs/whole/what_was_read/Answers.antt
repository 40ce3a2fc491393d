use Rattle.std.proofs.Common.{subst}
use Rattle.cert_rules.specs.States.{Wanted}
use Rattle.cert_keep.specs.Gathering.{Gathers, IsBuiltFrom}
use Rattle.cert_keep.specs.Parts.{gathered}
use Rattle.cert_check.specs.Verdicts.{IsBadAt}
use Rattle.cert_keep.proofs.whole.what_was_read.Goals as goal

pub returns-in-Err : goal.returns-in-Err
returns-in-Err c = λ bytes. subst (λ (w : Wanted). Gathers w (gathered c.args.gatherer) bytes → IsBadAt c.args.gatherer.reader.reading.mill w bytes c.in-Err.failure.line c.in-Err.failure.why) c.requires (c.in-Err.ensures.bad bytes)

pub returns-in-Ok : goal.returns-in-Ok
returns-in-Ok c = λ bytes h.
    c.into_certificate.ensures c.args.gatherer.reader.reading.mill bytes (subst (λ (w : Wanted). Gathers w (gathered c.args.gatherer) bytes → IsBuiltFrom c.args.gatherer.reader.reading.mill w bytes c.in-Ok.built) c.requires (c.in-Ok.ensures.built bytes) h)
