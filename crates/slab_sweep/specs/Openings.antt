-- The limits of a sweep's questions: a count limit that falls from point to point, and a loss limit that a starter's plan opens with.
use Rattle.std.specs.Prelude.{ℤ, Option, Some, None}
use Rattle.mill_model.specs.declared.sums.Sums.{Sums}
use Rattle.mill_model.specs.declared.limits.Limits.{Limits}
use Rattle.mill_model.specs.Mill.{Mill}
use Rattle.mill_model.specs.Plans.{Plan}
use Rattle.mill_model.specs.Fronts.{below, count_before}
use Rattle.slab_tree.specs.Searches.{loss_below}

-- what a starter answers, where it tells that
abbrev pub Telling : Type 0
Telling = Option (Mill → Option ℤ → Option Plan)

-- one below the loss of a plan, and missing where there is none
abbrev pub loss_below_plan : Mill → Option Plan → Option ℤ
loss_below_plan m None = None
loss_below_plan m (Some p) = loss_below m p

-- one below the loss of the plan that is told for a count limit
abbrev pub loss_told : Telling → Mill → Option ℤ → Option ℤ
loss_told None m count = None
loss_told (Some answers) m count = loss_below_plan m (answers m count)

-- one less than the count of the point before; missing before the first point
abbrev pub count_after : Option Sums → Option ℤ
count_after before = below (count_before before)

-- the limits with which the question after a point opens
abbrev pub opening_after : Telling → Mill → Option Sums → Limits
opening_after told m before = record { loss = loss_told told m (count_after before); count = count_after before }

-- the limits that a point's tree refutes
abbrev pub limits_of_point : Option Sums → Sums → Limits
limits_of_point before sums = record { loss = below (Some sums.loss); count = count_after before }

-- the limits that the last tree refutes
abbrev pub limits_of_rest : Option Sums → Limits
limits_of_rest before = record { loss = None; count = count_after before }
