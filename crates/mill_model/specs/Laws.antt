-- The laws that join the definitions, as statements.
use Rattle.std.specs.Prelude.{◌≡◌, ◌↔◌, ℕ, ◌+◌, ◌≤◌, ◌<◌, Bool, true, List, [], ◌∷◌, ◌++◌, length, sum_by, Option, None}
use Rattle.std.specs.List.{AllByRecursion}
use Rattle.mill_model.specs.declared.ask.Ask.{Ask}
use Rattle.mill_model.specs.declared.order.Order.{Order}
use Rattle.mill_model.specs.declared.steps.Step.{Step}
use Rattle.mill_model.specs.declared.sums.Sums.{Sums}
use Rattle.mill_model.specs.declared.limits.Limits.{Limits}
use Rattle.mill_model.specs.Mill.{Mill, IsInLimits}
use Rattle.mill_model.specs.Plain.{IsPlainlyRefuted}
use Rattle.mill_model.specs.Plans.{Plan, slab, IsLegal, IsAttained, sums_of}
use Rattle.mill_model.specs.Prices.{Prices, Refutes}
use Rattle.mill_model.specs.Decisions.{Decision, IsAsk, AreAsks, PlanAgrees, answer_of, agrees, column_agrees}
use Rattle.mill_model.specs.Limits.{IsWithin, AreSmaller}
use Rattle.mill_model.specs.Trees.{Unmarked, Tree, EverySplit, preorder, marks_of, IsRefutation, IsOpenTree, most_nodes}
use Rattle.mill_model.specs.Marks.{MarkedSteps, HasOneMarkEach, IsMarkedRefutation, AreAllPlain}
use Rattle.mill_model.specs.declared.mark.Mark.{Mark}
use Rattle.mill_model.specs.declared.mark.Mark.TheVariants.{Spread}
use Rattle.mill_model.specs.Shares.{Shown}
use Rattle.mill_model.specs.Columns.{Column, size_of}
use Rattle.mill_model.specs.Judging.{first_broken}
use Rattle.mill_model.specs.Assignments.{Assignment, Agrees, Follows}
use Rattle.mill_model.specs.Covers.{Part, IsCover}
use Rattle.mill_model.specs.Fronts.{IsUndominated, IsFront, Covers, Point, FallsBelow, IsGoodHead, IsGoodWhole, last_sums, sums_list}

-- The sizes of a legal plan's slabs sum to its loss and the weights of all orders.
abbrev pub SizesAreLossAndWeights : Type 0
SizesAreLossAndWeights = (m : Mill) (p : Plan) → IsLegal m p →
    sum_by (size_of m) p.kinds ≡ (sums_of m p).loss + sum_by (λ (order : Order). order.weight) m.orders

-- A plan breaks none of its rules exactly where it is legal.
abbrev pub LegalPlansBreakNoRule : Type 0
LegalPlansBreakNoRule = (m : Mill) (p : Plan) → (first_broken m p ≡ None) ↔ IsLegal m p

-- Where prices refute the limits under the decisions, no legal plan that agrees is within them.
abbrev pub PricesExcludePlans : Type 0
PricesExcludePlans = (m : Mill) (limits : Limits) (decisions : List Decision) (prices : Prices) (p : Plan) →
    AreAsks m decisions → Refutes m limits decisions prices → IsLegal m p → PlanAgrees decisions p → IsWithin (sums_of m p) limits → ⊥

-- A plan agrees with exactly one answer of each question.
abbrev pub PlansAnswerOnce : Type 0
PlansAnswerOnce = (p : Plan) (ask : Ask) →
    (b : Bool) × PlanAgrees ((ask, b) ∷ []) p × ((c : Bool) → PlanAgrees ((ask, c) ∷ []) p → c ≡ b)

-- A legal plan agrees with decisions exactly where each of its slabs does.
abbrev pub PlansAgreeBySlabs : Type 0
PlansAgreeBySlabs = (m : Mill) (p : Plan) (decisions : List Decision) → IsLegal m p → AreAsks m decisions →
    PlanAgrees decisions p ↔ ((k : ℕ) → k < length p.kinds → column_agrees decisions (slab p k) ≡ true)

-- Where the steps are a tree for the limits, no legal plan is within them.
abbrev pub TreesExcludePlans : Type 0
TreesExcludePlans = (m : Mill) (limits : Limits) (steps : List Step) (p : Plan) →
    IsRefutation m limits [] steps → IsLegal m p → IsWithin (sums_of m p) limits → ⊥

-- A tree for limits is a tree for all smaller limits.
abbrev pub TreesServeSmallerLimits : Type 0
TreesServeSmallerLimits = (m : Mill) (smaller limits : Limits) (decisions : List Decision) (steps : List Step) →
    AreSmaller smaller limits → IsRefutation m limits decisions steps → IsRefutation m smaller decisions steps

-- The points of a whole certificate are the Pareto front.
abbrev pub WholeCertificatesGiveTheFront : Type 0
WholeCertificatesGiveTheFront = (m : Mill) (points : List Point) (last : MarkedSteps) →
    IsGoodWhole m points last → IsFront m (sums_list points)

-- Where a whole certificate has no point, no plan is legal.
abbrev pub NoPointMeansNoPlan : Type 0
NoPointMeansNoPlan = (m : Mill) (last : MarkedSteps) (p : Plan) → IsGoodWhole m [] last → IsLegal m p → ⊥

-- In a good head each point but the last is undominated, and the last has the least loss among the pairs that fall below the point before it.
abbrev pub GoodHeadsBeginTheFront : Type 0
GoodHeadsBeginTheFront = (m : Mill) (points : List Point) (last : Point) → IsGoodHead m (points ++ last ∷ []) →
    AllByRecursion (IsUndominated m) (sums_list points)
    × ((x : Sums) → IsAttained m x → FallsBelow x.count (last_sums None points) → last.sums.loss ≤ x.loss)

-- Limits that are plainly refuted are refuted by prices, under any decisions.
abbrev pub PlainlyRefutedLimitsAreRefuted : Type 0
PlainlyRefutedLimitsAreRefuted = (m : Mill) (limits : Limits) (decisions : List Decision) → IsInLimits m → IsPlainlyRefuted m limits →
    (prices : Prices) × Refutes m limits decisions prices

-- A fractional cover and refuting prices don't both exist.
abbrev pub NoCoverWhereRefuted : Type 0
NoCoverWhereRefuted = (m : Mill) (limits : Limits) (decisions : List Decision) (prices : Prices) (d : ℕ) (parts : List Part) →
    Refutes m limits decisions prices → IsCover m limits decisions d parts → ⊥

-- A cover within limits is one within all greater limits.
abbrev pub CoversServeGreaterLimits : Type 0
CoversServeGreaterLimits = (m : Mill) (limits greater : Limits) (decisions : List Decision) (d : ℕ) (parts : List Part) →
    AreSmaller limits greater → IsCover m limits decisions d parts → IsCover m greater decisions d parts

-- Where a question of a marked tree shows a cover, no prices refute the tree's limits under the decisions above it.
abbrev pub ShownCoversExcludePrices : Type 0
ShownCoversExcludePrices = (m : Mill) (limits : Limits) (decisions : List Decision) (s : MarkedSteps) (refutation : IsMarkedRefutation m limits decisions s) →
    EverySplit (λ mark _ above. (shown : Shown) (prices : Prices) → mark ≡ Spread shown → Refutes m limits above prices → ⊥) refutation.tree decisions

-- Plain marks claim nothing: with them, steps are those of a marked tree exactly where they are those of a tree.
abbrev pub PlainMarksClaimNothing : Type 0
PlainMarksClaimNothing = (m : Mill) (limits : Limits) (decisions : List Decision) (s : MarkedSteps) → HasOneMarkEach s → AreAllPlain s.marks →
    IsMarkedRefutation m limits decisions s ↔ IsRefutation m limits decisions s.steps

-- A mill has at most one Pareto front.
abbrev pub OneFront : Type 0
OneFront = (m : Mill) (xs ys : List Sums) → IsFront m xs → IsFront m ys → xs ≡ ys

-- Some point of a front is at most an attained pair in both numbers.
abbrev pub FrontsCoverAttainedPairs : Type 0
FrontsCoverAttainedPairs = (m : Mill) (xs : List Sums) (x : Sums) → IsFront m xs → IsAttained m x → Covers xs x

-- A tree, finished or not, has at most 2 ^ (m + 1) - 1 nodes, where the mill has m questions.
abbrev pub TreesHaveFewNodes : Type 0
TreesHaveFewNodes =
    ((m : Mill) (limits : Limits) (steps : List Step) → IsRefutation m limits [] steps → length steps < most_nodes m)
    × ((m : Mill) (steps : List (Option Ask)) → IsOpenTree m [] steps → length steps < most_nodes m)

-- A list of steps begins with at most one tree.
abbrev pub StepsBeginOneTree : Type 0
StepsBeginOneTree = (t u : Unmarked Prices) (xs ys : List Step) → preorder t ++ xs ≡ preorder u ++ ys → (t ≡ u) × (xs ≡ ys)

-- Steps and marks begin with at most one marked tree.
abbrev pub MarkedStepsBeginOneTree : Type 0
MarkedStepsBeginOneTree = (t u : Tree Mark Prices) (xs ys : List Step) (marks others : List Mark) →
    preorder t ++ xs ≡ preorder u ++ ys → marks_of t ++ marks ≡ marks_of u ++ others → (t ≡ u) × (xs ≡ ys) × (marks ≡ others)

-- A legal plan that agrees with decisions agrees with what follows from them.
abbrev pub PlansAgreeWithWhatFollows : Type 0
PlansAgreeWithWhatFollows = (m : Mill) (p : Plan) (decisions : List Decision) (ask : Ask) (b : Bool) →
    IsLegal m p → AreAsks m decisions → IsAsk m ask → PlanAgrees decisions p → Follows decisions ask b → answer_of p ask ≡ b

-- A column that agrees with decisions agrees with what follows from them, if some assignment agrees.
abbrev pub ColumnsAgreeWithWhatFollows : Type 0
ColumnsAgreeWithWhatFollows = (c : Column) (decisions : List Decision) (a : Assignment) (ask : Ask) (b : Bool) →
    Agrees decisions a → column_agrees decisions c ≡ true → Follows decisions ask b → agrees c (ask, b) ≡ true
