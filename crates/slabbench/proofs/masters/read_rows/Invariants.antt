use Rattle.slab_master.specs.Given.{AreRows}
use Rattle.slabbench.proofs.masters.read_rows.Given as goal

abbrev pub invariant-rows : goal.invariant-rows
invariant-rows l = AreRows l.rows.items
