-- What columns exceed by at most.
use Rattle.std.proofs.Common.{◌⊎◌, inl, inr, ℤ, ◌≤ℤ◌, arith}
use Rattle.std.proofs.lemmas.Int.{ints}
use Rattle.mill_model.specs.Columns.{Column}
use Rattle.pricing_laws.specs.Problems.{Problem, IsAllowed, ExceedAtMost, excess}

pub at_most : (a b c : ℤ) → a ≤ℤ b → b ≤ℤ c → a ≤ℤ c
at_most a b c h k = omega (arith, ints)

-- fewer columns, or a greater bound
pub exceed_weaker : (q : Problem) (low high : ℤ) (IsSo IsLess : Column → Type 0) → low ≤ℤ high → ((c : Column) → IsAllowed q c → IsLess c → IsSo c) → ExceedAtMost q low IsSo → ExceedAtMost q high IsLess
exceed_weaker q low high IsSo IsLess le less h c allowed so = at_most (excess q.mill q.prices c) low high (h c allowed (less c allowed so)) le

-- columns of two sorts, the first of which exceed by less
pub exceed_both : (q : Problem) (first most : ℤ) (IsFirst IsSecond IsEither : Column → Type 0) → first ≤ℤ most → ((c : Column) → IsAllowed q c → IsEither c → IsFirst c ⊎ IsSecond c)
    → ExceedAtMost q first IsFirst → ExceedAtMost q most IsSecond → ExceedAtMost q most IsEither
exceed_both q first most IsFirst IsSecond IsEither le either h k c allowed so = sort (either c allowed so)
  where
    sort : IsFirst c ⊎ IsSecond c → excess q.mill q.prices c ≤ℤ most
    sort (inl s) = at_most (excess q.mill q.prices c) first most (h c allowed s) le
    sort (inr s) = k c allowed s

-- there are no such columns
pub exceed_none : (q : Problem) (most : ℤ) (IsSo : Column → Type 0) → ((c : Column) → IsAllowed q c → IsSo c → ⊥) → ExceedAtMost q most IsSo
exceed_none q most IsSo none c allowed so = absurd (none c allowed so)
