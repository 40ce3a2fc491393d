use Rattle.std.proofs.Common.{take}
use Rattle.std.specs.Prelude.{All, pos, ◌≤ℤ◌}
use Rattle.slab_master.specs.Sums.{product_of}
use Rattle.slab_master.proofs.check.products_hold.Given as goal

abbrev pub invariant-loop-column : goal.invariant-loop-column
invariant-loop-column l = All (λ c. product_of l.numbers c.items ≤ℤ pos 0) (take l.column-index l.columns)
