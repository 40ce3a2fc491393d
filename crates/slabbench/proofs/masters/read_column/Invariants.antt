use Rattle.slab_master.specs.Given.{IsColumn}
use Rattle.slabbench.proofs.masters.read_column.Given as goal

abbrev pub invariant-entries : goal.invariant-entries
invariant-entries l = IsColumn l.rows l.entries.items
