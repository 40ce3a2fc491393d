use Rattle.std.proofs.Common.{subst}
use Rattle.cert_rules.specs.States.{Wanted}
use Rattle.cert_rules.specs.States.Wanted.{Cuts}
use Rattle.cert_keep.specs.declared.kept.CutRead.TheVariants as heads
use Rattle.cert_keep.specs.Gathering.{Gathered, Gathers, IsBuiltFrom}
use Rattle.cert_keep.specs.Parts.{gathered}
use Rattle.cert_check.specs.Verdicts.{IsBadAt}
use Rattle.cert_keep.specs.Reads.{IsCutRead}
use Rattle.cert_keep.proofs.Spelling.{head_read}
use Rattle.cert_keep.proofs.Meanings.{cut_means}
use Rattle.cert_keep.proofs.cut_reader.CutReader.end.Goals as goal

pub returns-in-Err-clause-read : goal.returns-in-Err-clause-read
returns-in-Err-clause-read c = λ bytes.
    subst (λ (g : Gathered). Gathers Cuts g bytes → IsBadAt g.reading.mill Cuts bytes c.in-Err.failure.line c.in-Err.failure.why) c.self.view_is
    (subst (λ (w : Wanted). Gathers w (gathered c.self.inside.gatherer) bytes → IsBadAt c.self.inside.gatherer.reader.reading.mill w bytes c.in-Err.failure.line c.in-Err.failure.why) c.self.invariant (c.in-Err.ensures.bad bytes))

pub returns-in-Ok-clause-read : goal.returns-in-Ok-clause-read
returns-in-Ok-clause-read c = λ bytes.
    subst (λ (g : Gathered). Gathers Cuts g bytes → IsCutRead g.reading.mill bytes (heads.Head c.into_head.result)) c.self.view_is
    (λ h. head_read c.self.inside.gatherer.reader.reading.mill bytes c.in-Ok.built c.into_head.result c.into_head.ensures
    (subst (λ (w : Wanted). Gathers w (gathered c.self.inside.gatherer) bytes → IsBuiltFrom c.self.inside.gatherer.reader.reading.mill w bytes c.in-Ok.built) c.self.invariant (c.in-Ok.ensures.built bytes) h))

pub returns-in-Ok-clause-means : goal.returns-in-Ok-clause-means
returns-in-Ok-clause-means c = λ bytes stands. cut_means c.args.self.reading.mill bytes (heads.Head c.into_head.result) (returns-in-Ok-clause-read c bytes stands)
