-- What a master is once a working row that it lent has come back.
use Rattle.std.specs.Prelude.{List}
use Rattle.std.specs.Borrow.{Lends, MutBor, Fml, Array}
use Rattle.slab_frac.specs.Fraction.{Fraction}
use Rattle.slab_frac.specs.contracts.frac.Frac.{the_row as frac_row}
use Rattle.slab_master.specs.Given.{Given}
use Rattle.slab_master.specs.contracts.master.Master.{the_row}

-- whatever is written into the working row r, the master m ends with the rows and columns that it had
abbrev pub LendsWorkingRow : MutBor Given → MutBor (List Fraction) → Fml
LendsWorkingRow m r = Lends the_row (Array frac_row 0) m r (λ _. m.now)
