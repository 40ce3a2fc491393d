use Rattle.std.proofs.Common.{◌≡◌, drop}
use Rattle.std.specs.Prelude.{◌+ℤ◌}
use Rattle.slab_master.specs.Sums.{product_of}
use Rattle.slab_master.proofs.check.column_product.Given as goal

abbrev pub invariant-loop-row : goal.invariant-loop-row
invariant-loop-row l = (l.total +ℤ product_of l.numbers (drop l.row-index l.column)) ≡ product_of l.numbers l.column
