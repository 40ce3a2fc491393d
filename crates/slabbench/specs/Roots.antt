-- The limits of a root's turn.
use Rattle.mill_model.specs.declared.limits.Limits.{Limits}
use Rattle.mill_model.specs.Limits.{number_of}
use Rattle.slab_master.specs.Given.{IsSmall}

-- each that stands is at most 2 ^ 40 in absolute value
pub record AreSmallLimits (limits : Limits) : Type 0 where
  pub loss : IsSmall (number_of limits.loss)
  pub count : IsSmall (number_of limits.count)
