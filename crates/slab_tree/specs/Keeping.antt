-- The loss of a cover that is shown.
use Rattle.std.specs.Prelude.{ℤ, pos, unsigned_abs, map, Option, Some}
use Rattle.mill_model.specs.Mill.{Mill}
use Rattle.mill_model.specs.Covers.{times}
use Rattle.mill_model.specs.Limits.{AtMost}
use Rattle.mill_model.specs.Shares.{Shown, part_of}
use Rattle.slab_relax.specs.PoolCovers.{loss_by}

-- the losses of the columns times their multipliers, divided by the denominator, are within the limit
abbrev pub IsLossWithin : Mill → Option ℤ → Shown → Type 0
IsLossWithin m limit shown = AtMost (Some (pos (loss_by m (map part_of shown.shares)))) (times (unsigned_abs shown.d) limit)
