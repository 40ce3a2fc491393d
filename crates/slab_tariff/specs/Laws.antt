-- What a tariff says of all plans, as statements.
use Rattle.std.specs.Prelude.{ℕ, ◌≤◌, ◌<◌, ◌+◌, List, Some, Contains, length}
use Rattle.mill_model.specs.declared.sums.Sums.{Sums}
use Rattle.mill_model.specs.Mill.{Mill}
use Rattle.mill_model.specs.Plans.{Plan, IsLegal, sums_of}
use Rattle.mill_model.specs.Fronts.{IsFront}
use Rattle.slab_tariff.specs.declared.span.Span.{Span}
use Rattle.slab_tariff.specs.Ratios.{Ratio, IsAtMost}
use Rattle.slab_tariff.specs.Tariffs.{cost_of, IsStaircase, AreSpans, RunFrom, IsCheapest}

-- The cheapest point of a front costs at most what any legal plan costs.
abbrev pub CheapestPointsAreCheapestPlans : Type 0
CheapestPointsAreCheapestPlans = (m : Mill) (points : List Sums) (a b v : ℕ) (x : Sums) (p : Plan) →
    IsFront m points → IsCheapest points a b (Some (v, x)) → IsLegal m p → v ≤ cost_of a b (sums_of m p)

-- A point of a span costs at most what any legal plan costs, at all prices whose ratio lies in the span.
abbrev pub PointsOfSpansAreCheapestPlans : Type 0
PointsOfSpansAreCheapestPlans = (m : Mill) (points : List Sums) (spans : List Span) (s : Span) (a b : ℕ) (p : Plan) →
    IsFront m points → AreSpans points spans → Contains spans s → 1 ≤ a → IsAtMost s.from (b, a) → IsAtMost (b, a) s.to →
    IsLegal m p → cost_of a b s.sums ≤ cost_of a b (sums_of m p)

-- The losses of a front's points rise, and their counts fall.
abbrev pub FrontsAreStaircases : Type 0
FrontsAreStaircases = (m : Mill) (points : List Sums) → IsFront m points → IsStaircase points

-- The spans of some points touch, from 0 on without an upper end.
abbrev pub SpansTouch : Type 0
SpansTouch = (points : List Sums) (spans : List Span) →
    IsStaircase points → 0 < length points → AreSpans points spans → RunFrom (0, 1) spans

-- So each ratio of prices lies in the span of some point.
abbrev pub EachRatioHasASpan : Type 0
EachRatioHasASpan = (points : List Sums) (spans : List Span) (r : Ratio) →
    IsStaircase points → 0 < length points → AreSpans points spans →
    (s : Span) × Contains spans s × IsAtMost s.from r × IsAtMost r s.to
