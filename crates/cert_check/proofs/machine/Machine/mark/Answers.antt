use Rattle.std.proofs.Common.{refl, sym, subst}
use Rattle.cert_view.specs.declared.line.Line.{Line}
use Rattle.cert_check.specs.declared.phase.Phase.TheVariants as phases
use Rattle.cert_check.specs.Readings.{Machine, GoesOn}
use Rattle.cert_check.specs.Seen.{seen}
use Rattle.cert_check.proofs.Goes.{spread_goes}
use Rattle.cert_check.proofs.machine.Machine.mark.Goals as goal

pub returns-in-Ok-clause-turn : goal.returns-in-Ok-clause-turn
returns-in-Ok-clause-turn c =
    let old : Machine = seen c.args.self.now in
    let new : Machine = record old { kept = record old.kept { phase = phases.Spread c.args.rest; tally = c.start.new.self } } in
    subst (λ (l : Line). GoesOn old new l) (sym c.in-Spread.is) (spread_goes old new c.args.rest c.requires.phase c.requires.version c.in-Spread.numbers c.in-Ok.ensures.rules (c.in-Ok.ensures.tally c.args.self.now.mill.now) refl refl refl refl)
