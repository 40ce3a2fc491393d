use Rattle.std.proofs.Common.{◌≡◌}
use Rattle.mill_model.specs.Limits.{number_of}
use Rattle.slab_master.specs.Given.{IsSmall}
use Rattle.slabbench.proofs.questions.ask_all.Given as goal

abbrev pub invariant-limits : goal.invariant-limits
invariant-limits g l = record { sizes : l.asking.table ≡ l.mill.sizes; pool : l.asking.pool.mill ≡ l.mill; count : IsSmall (number_of l.count) }
