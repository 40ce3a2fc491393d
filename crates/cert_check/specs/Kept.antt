-- What a reader keeps between lines, and the states that it stands for.
use Rattle.std.specs.Prelude.{◌≡◌, Bool, true, false, List, [], ◌∷◌, reverse}
use Rattle.mill_model.specs.declared.sums.Sums.{Sums}
use Rattle.mill_model.specs.declared.version.Version.{Version}
use Rattle.mill_model.specs.Mill.{Mill}
use Rattle.mill_model.specs.Decisions.{Decision}
use Rattle.cert_rules.specs.States.{Owner, Stage, State}
use Rattle.cert_rules.specs.States.Owner.{OfPoint, OfRest}
use Rattle.cert_rules.specs.States.Outcome.{Proved, Unfinished}
use Rattle.cert_rules.specs.States.Stage.{Begins, Marked, InSpread}
use Rattle.cert_rules.specs.States.State.{Begin, BetweenPoints, InPlan, InTree, InOpenTree, Ended}
use Rattle.cert_slabs.specs.Drafts.{Draft, IsDraft}
use Rattle.cert_slabs.specs.Tallies.{Tally, IsTally}
use Rattle.cert_check.specs.declared.phase.Phase.{Phase}
use Rattle.cert_check.specs.declared.phase.Phase.TheVariants as phases

-- ---- all of it

pub record Kept : Type 0 where
  pub version : Version
  -- the earliest first
  pub points : List Sums
  pub phase : Phase
  pub draft : Draft
  pub tally : Tally
  pub path : List Decision

abbrev pub is_rest : Owner → Bool
is_rest OfPoint = false
is_rest OfRest = true

abbrev pub owner_of : Bool → Owner
owner_of false = OfPoint
owner_of true = OfRest

-- the stage of a question
abbrev pub IsStage : Mill → Kept → Owner → Stage → Type 0
IsStage m k owner Begins = k.phase ≡ phases.Tree (is_rest owner)
IsStage m k owner Marked = k.phase ≡ phases.Question (is_rest owner)
IsStage m k owner (InSpread d shares) = (k.phase ≡ phases.Spread (is_rest owner)) × IsTally m d shares k.tally

-- what is kept is of this state
abbrev pub Keeps : Mill → Kept → State → Type 0
Keeps m k Begin = (k.phase ≡ phases.Begin) × (k.points ≡ []) × (k.path ≡ [])
Keeps m k (BetweenPoints version points) = (k.phase ≡ phases.Between) × (k.version ≡ version) × (reverse k.points ≡ points) × (k.path ≡ [])
Keeps m k (InPlan version before sums slabs) = (k.phase ≡ phases.Plan) × (k.version ≡ version) × (reverse k.points ≡ sums ∷ before) × (k.path ≡ []) × IsDraft m slabs k.draft
Keeps m k (InTree goal stage path) = (k.version ≡ goal.version) × (reverse k.points ≡ goal.points) × (k.path ≡ path) × IsStage m k goal.owner stage
Keeps m k (InOpenTree points path) = (k.phase ≡ phases.Open) × (reverse k.points ≡ points) × (k.path ≡ path)
Keeps m k (Ended Proved points) = (k.phase ≡ phases.Proved) × (reverse k.points ≡ points) × (k.path ≡ [])
Keeps m k (Ended Unfinished points) = (k.phase ≡ phases.Unfinished) × (reverse k.points ≡ points) × (k.path ≡ [])
