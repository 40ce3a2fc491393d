-- The slab that a rule of plans is about.
use Rattle.std.specs.Prelude.{ℕ, Option, Some, None}
use Rattle.mill_model.specs.declared.illegal.Illegal.{Illegal}
use Rattle.mill_model.specs.declared.illegal.Illegal.TheVariants.{Places, Place, Empty, Size, Yard, Twice, Load, Colours, Barred}

abbrev pub slab_number : Illegal → Option ℕ
slab_number Places = None
slab_number (Place o) = None
slab_number (Empty k) = Some k
slab_number (Size k) = Some k
slab_number (Yard k) = Some k
slab_number (Twice k) = Some k
slab_number (Load k) = Some k
slab_number (Colours k) = Some k
slab_number (Barred k) = Some k
