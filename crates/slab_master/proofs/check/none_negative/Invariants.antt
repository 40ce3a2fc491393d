use Rattle.std.proofs.Common.{take}
use Rattle.std.specs.Prelude.{All, pos, ◌≤ℤ◌}
use Rattle.slab_master.proofs.check.none_negative.Given as goal

abbrev pub invariant-loop-number : goal.invariant-loop-number
invariant-loop-number l = All (λ k. pos 0 ≤ℤ k) (take l.number-index l.numbers)
