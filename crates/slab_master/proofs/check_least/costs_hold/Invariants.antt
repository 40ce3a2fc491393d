use Rattle.std.proofs.Common.{ℕ, ◌<◌, slice_index_or, Vec, Global}
use Rattle.std.specs.Prelude.{◌*ℤ◌, ◌≤ℤ◌}
use Rattle.slab_master.specs.Given.{Entry}
use Rattle.slab_master.specs.Sums.{number_at, product_of}
use Rattle.slab_master.proofs.check_least.costs_hold.Given as goal

abbrev pub invariant-loop-j : goal.invariant-loop-j
invariant-loop-j l = (i : ℕ) (c : Vec Entry Global) → i < l.j → product_of l.numbers (slice_index_or l.columns i c).items ≤ℤ (number_at l.costs i *ℤ l.denominator)
