-- Where a text has ended.
use Rattle.std.specs.Prelude.{◌≡◌, ℕ, List, [], reverse}
use Rattle.mill_model.specs.declared.sums.Sums.{Sums}
use Rattle.cert_view.specs.declared.line.Line.{Line}
use Rattle.cert_rules.specs.States.{Outcome}
use Rattle.cert_rules.specs.States.Outcome.{Proved, Unfinished}
use Rattle.cert_rules.specs.States.State.{Begin, Ended}
use Rattle.cert_rules.specs.Turns.{after}
use Rattle.cert_rules.specs.Reading.{IsAccepted}
use Rattle.cert_check.specs.declared.ending.Ending.{Ending}
use Rattle.cert_check.specs.declared.ending.Ending.TheVariants as endings
use Rattle.cert_check.specs.declared.phase.Phase.TheVariants as phases
use Rattle.cert_check.specs.Kept.{Kept}
use Rattle.cert_check.specs.Readings.{Reading}

abbrev pub outcome_of : Ending → Outcome
outcome_of (endings.Proved points) = Proved
outcome_of (endings.Unfinished points) = Unfinished

abbrev pub points_of : Ending → List Sums
points_of (endings.Proved points) = points
points_of (endings.Unfinished points) = points

-- no line of the bytes is bad, the last of them ends the text, and no byte is held
pub record HasAccepted (r : Reading) (bytes : List ℕ) (ending : Ending) : Type 0 where
  pub lines : List Line
  pub accepted : IsAccepted r.mill r.wanted bytes lines
  pub ends : after r.mill r.wanted Begin lines ≡ Ended (outcome_of ending) (reverse (points_of ending))
  pub held : r.held ≡ []

-- the ending of what is kept
abbrev pub IsEndingOf : Kept → Ending → Type 0
IsEndingOf k (endings.Proved points) = (k.phase ≡ phases.Proved) × (points ≡ k.points)
IsEndingOf k (endings.Unfinished points) = (k.phase ≡ phases.Unfinished) × (points ≡ k.points)
