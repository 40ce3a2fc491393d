-- Where the reading of a certificate stands between two lines.
use Rattle.std.specs.Prelude.{ℤ, List, [], ◌∷◌, Option, Some, None}
use Rattle.mill_model.specs.declared.limits.Limits.{Limits}
use Rattle.mill_model.specs.declared.sums.Sums.{Sums}
use Rattle.mill_model.specs.declared.version.Version.{Version}
use Rattle.mill_model.specs.Columns.{Column}
use Rattle.mill_model.specs.Decisions.{Decision}
use Rattle.mill_model.specs.Fronts.{below, count_before}
use Rattle.mill_model.specs.Shares.{Share}

-- which certificates a reader wants
pub data Wanted : Type 0 where
  -- whole ones and cuts
  All : Wanted
  -- cuts alone: `done` can't stand
  Cuts : Wanted

-- whose tree is read
pub data Owner : Type 0 where
  -- that of a point: it refutes less loss
  OfPoint : Owner
  -- the tree after `done`
  OfRest : Owner

-- The tree that is read. The points so far stand with the latest first; it has this tree, where it is a point's.
pub record Goal : Type 0 where
  pub version : Version
  pub owner : Owner
  pub points : List Sums

-- what has been read of a question that can stand next
pub data Stage : Type 0 where
  -- nothing: a tree begins
  Begins : Stage
  -- a mark of one line
  Marked : Stage
  -- the denominator of a spread, and its shares so far in their order
  InSpread : ℤ → List Share → Stage

-- what a text shows that has ended
pub data Outcome : Type 0 where
  Proved : Outcome
  Unfinished : Outcome

-- Points and the decisions of a path stand with the latest first.
pub data State : Type 0 where
  -- nothing is read
  Begin : State
  -- after the header, or after a point's tree
  BetweenPoints : Version → List Sums → State
  -- after a point's first line: the points before it, its sums, and its slabs so far in their order
  InPlan : Version → List Sums → Sums → List Column → State
  -- in a tree, where the path leads
  InTree : Goal → Stage → List Decision → State
  -- in the open tree
  InOpenTree : List Sums → List Decision → State
  -- the text has ended
  Ended : Outcome → List Sums → State

-- the latest point
abbrev pub latest : List Sums → Option Sums
latest [] = None
latest (sums ∷ before) = Some sums

-- the limits that a tree refutes
abbrev pub limits_of : Owner → List Sums → Limits
limits_of OfPoint [] = record { loss = None; count = None }
limits_of OfPoint (sums ∷ before) = record { loss = below (Some sums.loss); count = below (count_before (latest before)) }
limits_of OfRest points = record { loss = None; count = below (count_before (latest points)) }

abbrev pub tree_limits : Goal → Limits
tree_limits goal = limits_of goal.owner goal.points

-- where a tree has ended
abbrev pub after_owner : Owner → Version → List Sums → State
after_owner OfPoint version points = BetweenPoints version points
after_owner OfRest version points = Ended Proved points

abbrev pub after_tree : Goal → State
after_tree goal = after_owner goal.owner goal.version goal.points

-- at the next branch of a tree, or at what follows the tree where no branch is left
abbrev pub branch_or : State → (List Decision → State) → Option (List Decision) → State
branch_or done at None = done
branch_or done at (Some path) = at path
