-- The Pareto front (the pairs of loss and count that no other attained pair betters), and the certificates that prove it.
use Rattle.std.specs.Prelude.{◌≡◌, ℕ, ℤ, pos, ◌-ℤ◌, ◌<◌, ◌≤◌, List, [], ◌∷◌, map, ◌↔◌, Option, Some, None}
use Rattle.std.specs.List.{Contains}
use Rattle.mill_model.specs.declared.sums.Sums.{Sums}
use Rattle.mill_model.specs.declared.ask.Ask.{Ask}
use Rattle.mill_model.specs.Mill.{Mill}
use Rattle.mill_model.specs.Plans.{Plan, IsLegal, IsAttained, IsInOrder, sums_of}
use Rattle.mill_model.specs.Trees.{IsOpenTree}
use Rattle.mill_model.specs.Marks.{MarkedSteps, IsMarkedRefutation}

-- the one is at most the other in both numbers, and they differ
abbrev pub Dominates : Sums → Sums → Type 0
Dominates x y = (x.loss ≤ y.loss) × (x.count ≤ y.count) × (x ≡ y → ⊥)

abbrev pub IsUndominated : Mill → Sums → Type 0
IsUndominated m x = (y : Sums) → IsAttained m y → Dominates y x → ⊥

-- the losses rise
abbrev pub LossesRise : List Sums → Type 0
LossesRise [] = Unit {0}
LossesRise (x ∷ []) = Unit {0}
LossesRise (x ∷ y ∷ ys) = (x.loss < y.loss) × LossesRise (y ∷ ys)

-- the attained pairs that no attained pair dominates, by rising loss
pub record IsFront (m : Mill) (xs : List Sums) : Type 0 where
  pub rise : LossesRise xs
  pub exact : (x : Sums) → Contains xs x ↔ (IsAttained m x × IsUndominated m x)

-- some member is at most the pair in both numbers
abbrev pub Covers : List Sums → Sums → Type 0
Covers xs y = (x : Sums) × Contains xs x × (x.loss ≤ y.loss) × (x.count ≤ y.count)

-- a pair of sums and a plan that attains it: the plan is legal, numbers its slabs by their least order, and has these sums
pub record IsPoint (m : Mill) (point : Sums × Plan) : Type 0 where
  pub legal : IsLegal m point.1
  pub order : IsInOrder point.1
  pub sums : sums_of m point.1 ≡ point.0

-- a point of a certificate: its sums, a plan that attains them, and a marked tree that refutes less loss
pub record Point : Type 0 where
  pub sums : Sums
  pub plan : Plan
  pub steps : MarkedSteps

-- one less than a number, where there is one
abbrev pub below : Option ℕ → Option ℤ
below None = None
below (Some n) = Some (pos n -ℤ pos 1)

-- the loss lies above the one before, where there is one
abbrev pub Exceeds : ℕ → Option Sums → Type 0
Exceeds loss None = Unit {0}
Exceeds loss (Some before) = before.loss < loss

abbrev pub FallsBelow : ℕ → Option Sums → Type 0
FallsBelow count None = Unit {0}
FallsBelow count (Some before) = count < before.count

abbrev pub count_before : Option Sums → Option ℕ
count_before None = None
count_before (Some before) = Some before.count

-- a point that may stand after the one before
pub record IsGoodPoint (m : Mill) (before : Option Sums) (point : Point) : Type 0 where
  pub loss : Exceeds point.sums.loss before
  pub count : FallsBelow point.sums.count before
  pub legal : IsLegal m point.plan
  pub sums : sums_of m point.plan ≡ point.sums
  pub order : IsInOrder point.plan
  pub steps : IsMarkedRefutation m (record { loss = below (Some point.sums.loss); count = below (count_before before) }) [] point.steps

-- the points, one after another, from the one before on
abbrev pub IsGoodFrom : Mill → Option Sums → List Point → Type 0
IsGoodFrom m before [] = Unit {0}
IsGoodFrom m before (point ∷ points) = IsGoodPoint m before point × IsGoodFrom m (Some point.sums) points

abbrev pub IsGoodHead : Mill → List Point → Type 0
IsGoodHead m = IsGoodFrom m None

-- the sums of the last point, or those before if there is no point
abbrev pub last_sums : Option Sums → List Point → Option Sums
last_sums before [] = before
last_sums before (point ∷ points) = last_sums (Some point.sums) points

-- the parts of a whole certificate: its points, and the last tree
pub record Whole : Type 0 where
  pub points : List Point
  pub last : MarkedSteps

-- a head, and a tree that refutes each plan of fewer new slabs than the last point, or each plan
pub record IsGoodWhole (m : Mill) (points : List Point) (last : MarkedSteps) : Type 0 where
  pub head : IsGoodHead m points
  pub rest : IsMarkedRefutation m (record { loss = None; count = below (count_before (last_sums None points)) }) [] last

-- a head, and an unfinished tree
pub record IsGoodCut (m : Mill) (points : List Point) (open_tree : List (Option Ask)) : Type 0 where
  pub head : IsGoodHead m points
  pub rest : IsOpenTree m [] open_tree

abbrev pub sums_list : List Point → List Sums
sums_list points = map (λ point. point.sums) points
