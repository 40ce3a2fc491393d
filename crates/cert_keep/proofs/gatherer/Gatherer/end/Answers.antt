use Rattle.cert_keep.specs.Parts.{gathered}
use Rattle.cert_keep.proofs.Gathering.{as_reader, built_from}
use Rattle.cert_keep.proofs.gatherer.Gatherer.end.Goals as goal

pub returns-in-Ok-clause-built : goal.returns-in-Ok-clause-built
returns-in-Ok-clause-built c = λ bytes h. built_from (gathered c.args.self) bytes _ c.in-Ok.ensures.limits (c.in-Ok.ensures.accepted bytes (as_reader _ (gathered c.args.self) bytes h)) h

pub returns-in-Err-clause-bad : goal.returns-in-Err-clause-bad
returns-in-Err-clause-bad c = λ bytes h. c.in-Err.ensures.bad bytes (as_reader _ (gathered c.args.self) bytes h)
