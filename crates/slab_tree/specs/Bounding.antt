-- What refuting prices say of the limits alone.
use Rattle.mill_model.specs.declared.limits.Limits.{Limits}
use Rattle.mill_model.specs.Prices.{Prices, HasLimits, IsWorth}

abbrev pub IsPaidFor : Limits → Prices → Type 0
IsPaidFor limits p = HasLimits limits p × IsWorth limits p
