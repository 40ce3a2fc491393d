use Rattle.std.proofs.Common.{ℕ, ◌+◌}
use Rattle.std.specs.Int.{IsGcd}
use Rattle.slab_frac.specs.Odd.{IsOdd}
use Rattle.slab_frac.proofs.divisor.odd_divisor.Given as goal

-- both numbers are odd, and what divides them divides the first two alike
abbrev pub invariant-loop-x : goal.invariant-loop-x
invariant-loop-x l = record { first : IsOdd l.x; second : IsOdd l.y; same : (g : ℕ) → IsGcd l.x l.y g → IsGcd l.fn.a l.fn.b g }

abbrev pub decreases-loop-x : goal.decreases-loop-x
decreases-loop-x l = l.x + l.y
