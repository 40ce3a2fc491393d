use Rattle.std.proofs.Common.{[], subst}
use Rattle.cert_rules.specs.States.{Wanted}
use Rattle.cert_keep.specs.Gathering.{Gathered, Gathers}
use Rattle.cert_keep.proofs.Gathering.{gathers_nothing}
use Rattle.cert_keep.proofs.gatherer.Gatherer.new.Goals as goal

pub returns-clause-stands : goal.returns-clause-stands
returns-clause-stands c =
    let new : Gathered = record { reading = c.in_ok-reader.reader.reading; built = c.new-built.result } in
    subst (λ (w : Wanted). Gathers w new []) c.in_ok-reader.ensures.wanted (gathers_nothing new c.in_ok-reader.ensures.stands c.new-built.ensures)
