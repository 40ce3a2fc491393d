use Rattle.std.proofs.Common.{◌≡◌, drop}
use Rattle.std.specs.Prelude.{◌+ℤ◌}
use Rattle.slab_master.specs.Sums.{right_product}
use Rattle.slab_master.proofs.check.right_total.Given as goal

abbrev pub invariant-loop-i : goal.invariant-loop-i
invariant-loop-i l = (l.total +ℤ right_product (drop l.i l.numbers) (drop l.i l.rows)) ≡ right_product l.numbers l.rows
