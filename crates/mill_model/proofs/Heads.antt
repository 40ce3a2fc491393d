-- A head grows at its end, and its last point may be replaced.
use Rattle.std.proofs.Common.{◌≡◌, ℕ, ◌≤◌, ℤ, pos, List, [], ◌∷◌, ◌++◌, refl, sym, subst, inl, inr, arith, Option, Some, None}
use Rattle.std.proofs.lemmas.Int.{ints}
use Rattle.std.proofs.lemmas.Bool.{cases_lt}
use Rattle.mill_model.specs.declared.sums.Sums.{Sums}
use Rattle.mill_model.specs.Mill.{Mill}
use Rattle.mill_model.specs.Plans.{Plan, IsLegal, IsInOrder, sums_of}
use Rattle.mill_model.specs.Limits.{AtMost}
use Rattle.mill_model.specs.Marks.{MarkedSteps, IsMarkedRefutation}
use Rattle.mill_model.specs.Fronts.{Point, below, Exceeds, FallsBelow, count_before, IsGoodPoint, IsGoodFrom, last_sums}
use Rattle.mill_model.proofs.TreeLaws.{tree_refutes}

pub good_push : (m : Mill) (before : Option Sums) (points : List Point) (point : Point) → IsGoodFrom m before points → IsGoodPoint m (last_sums before points) point → IsGoodFrom m before (points ++ point ∷ [])
good_push m before [] point good next = (next, tt)
good_push m before (first ∷ points) point good next = (good.0, good_push m (Some first.sums) points point good.1 next)

pub good_front : (m : Mill) (before : Option Sums) (points : List Point) (point : Point) → IsGoodFrom m before (points ++ point ∷ []) → IsGoodFrom m before points × IsGoodPoint m (last_sums before points) point
good_front m before [] point good = (tt, good.0)
good_front m before (first ∷ points) point good =
    let rest : IsGoodFrom m (Some first.sums) points × IsGoodPoint m (last_sums (Some first.sums) points) point = good_front m (Some first.sums) points point good.1 in
    ((good.0, rest.0), rest.1)

pub last_sums-push : (before : Option Sums) (points : List Point) (point : Point) → last_sums before (points ++ point ∷ []) ≡ Some point.sums
last_sums-push before [] point = refl
last_sums-push before (first ∷ points) point = last_sums-push (Some first.sums) points point

falls_further : (n k : ℕ) (before : Option Sums) → n ≤ k → FallsBelow k before → FallsBelow n before
falls_further n k None h f = tt
falls_further n k (Some b) h f = omega arith

-- a plan of the same loss and no more new slabs takes the place of a point's plan, and the tree stays
pub good_replace : (m : Mill) (before : Option Sums) (point : Point) (plan : Plan) → IsGoodPoint m before point → IsLegal m plan → IsInOrder plan → (sums_of m plan).loss ≡ point.sums.loss → (sums_of m plan).count ≤ point.sums.count → IsGoodPoint m before (record point { sums = sums_of m plan; plan = plan })
good_replace m before point plan good legal order same fewer = record {
  loss = subst (λ n. Exceeds n before) (sym same) good.loss;
  count = falls_further (sums_of m plan).count point.sums.count before fewer good.count;
  legal = legal;
  sums = refl;
  order = order;
  steps = subst (λ n. IsMarkedRefutation m (record { loss = below (Some n); count = below (count_before before) }) [] point.steps) (sym same) good.steps;
}

-- a tree for one less than a loss shows that the loss is least, under the count limit
pub tree_least : (m : Mill) (loss : ℕ) (count : Option ℤ) (steps : MarkedSteps) (p : Plan) → IsMarkedRefutation m (record { loss = below (Some loss); count = count }) [] steps → IsLegal m p → AtMost (Some (pos (sums_of m p).count)) count → loss ≤ (sums_of m p).loss
tree_least m loss count steps p refutation legal within = elim (cases_lt (sums_of m p).loss loss) [
  | inl h ↦ absurd (tree_refutes m (record { loss = below (Some loss); count = count }) refutation.tree [] p tt refutation.refutes legal tt (record { loss = omega (arith, ints); count = within }))
  | inr h ↦ h
]
