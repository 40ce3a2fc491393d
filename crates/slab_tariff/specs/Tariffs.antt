-- What the points of a front cost, by the prices of a unit of loss and of a new slab.
use Rattle.std.specs.Prelude.{◌≡◌, ℕ, ◌+◌, ◌-◌, ◌*◌, ◌<◌, ◌≤◌, Bool, nat_lt, List, [], ◌∷◌, ◌++◌, map, filter, All, AllPairs, Option, Some, None}
use Rattle.mill_model.specs.declared.sums.Sums.{Sums}
use Rattle.slab_tariff.specs.declared.span.Span.{Span}
use Rattle.slab_tariff.specs.Ratios.{Ratio, IsGreatest, IsLeast}

-- the highest price of a unit of loss, and of a new slab
abbrev pub most_unit_price : ℕ
most_unit_price = 1000000

-- what a pair costs, by the price of a unit of loss and that of a new slab
abbrev pub cost_of : ℕ → ℕ → Sums → ℕ
cost_of a b x = a * x.loss + b * x.count

-- the loss rises and the count falls
abbrev pub IsBefore : Sums → Sums → Type 0
IsBefore x y = (x.loss < y.loss) × (y.count < x.count)

-- of each two points the first is before the second
abbrev pub IsStaircase : List Sums → Type 0
IsStaircase = AllPairs IsBefore

-- the loss that the second point has more, over the new slabs that it has fewer: at prices of this ratio both cost the same
abbrev pub ratio : Sums → Sums → Ratio
ratio x y = (y.loss - x.loss, x.count - y.count)

-- a point, the ratio of prices from which on it costs no more than those before it, and the one up to which no more than those after it
pub record IsSpan (points : List Sums) (s : Span) : Type 0 where
  pub before : List Sums
  pub after : List Sums
  pub stands : points ≡ before ++ s.sums ∷ after
  pub from : IsGreatest ((0, 1) ∷ map (λ x. ratio x s.sums) before) s.from
  pub to : IsLeast ((1, 0) ∷ map (λ y. ratio s.sums y) after) s.to

-- it begins below its end
abbrev pub is_wide : Span → Bool
is_wide s = nat_lt (s.from.0 * s.to.1) (s.to.0 * s.from.1)

-- those that are wide among the spans of all points, in the order of the points
pub record AreSpans (points : List Sums) (spans : List Span) : Type 0 where
  pub all : List Span
  pub one_each : map (λ s. s.sums) all ≡ points
  pub ends : All (IsSpan points) all
  pub wide : spans ≡ filter is_wide all

-- the spans touch: they run from this ratio on, each from where the one before ends, and the last has no upper end
abbrev pub RunFrom : Ratio → List Span → Type 0
RunFrom from [] = from ≡ (1, 0)
RunFrom from (s ∷ spans) = (s.from ≡ from) × RunFrom s.to spans

-- the first of the points that cost least, with its cost
pub record IsFirstCheapest (points : List Sums) (a b : ℕ) (best : ℕ × Sums) : Type 0 where
  pub before : List Sums
  pub after : List Sums
  pub stands : points ≡ before ++ best.1 ∷ after
  pub costs : best.0 ≡ cost_of a b best.1
  pub first : All (λ x. best.0 < cost_of a b x) before
  pub least : All (λ y. best.0 ≤ cost_of a b y) after

-- it, or none where there is no point
abbrev pub IsCheapest : List Sums → ℕ → ℕ → Option (ℕ × Sums) → Type 0
IsCheapest points a b None = points ≡ []
IsCheapest points a b (Some best) = IsFirstCheapest points a b best
