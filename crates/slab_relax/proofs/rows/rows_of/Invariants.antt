use Rattle.std.proofs.Common.{◌≡◌, ◌++◌, length, pos}
use Rattle.std.specs.Prelude.{replicate}
use Rattle.slab_master.specs.declared.given.Sense.TheVariants.{Equal, AtMost}
use Rattle.slab_relax.proofs.rows.rows_of.Given as goal

abbrev pub invariant-loop-slab : goal.invariant-loop-slab
invariant-loop-slab l = l.rows.items ≡ replicate (length l.mill.orders) (Equal, pos 1) ++ replicate l._slab (AtMost, pos 1)
