-- Trees: what they refute, and that they refute smaller limits too.
use Rattle.std.proofs.Common.{◌≡◌, ℤ, pos, ◌*ℤ◌, ◌≤ℤ◌, true, false, List, ◌∷◌, arith, inl, inr, Option, Some, None, IfNone}
use Rattle.std.proofs.lemmas.Int.{ints}
use Rattle.std.proofs.lemmas.Bool.{cases_Bool}
use Rattle.std.proofs.Math.IntN.{zero-*ℤ}
use Rattle.mill_model.specs.declared.limits.Limits.{Limits}
use Rattle.mill_model.specs.Mill.{Mill}
use Rattle.mill_model.specs.Plans.{Plan, IsLegal, sums_of}
use Rattle.mill_model.specs.Prices.{Prices, Refutes}
use Rattle.mill_model.specs.Decisions.{Decision, AreAsks, PlanAgrees, answer_of}
use Rattle.mill_model.specs.Limits.{AtMost, IsWithin, AreSmaller, number_of}
use Rattle.mill_model.specs.Trees.{Tree, IsTree, RefutingTree}
use Rattle.mill_model.specs.Trees.Tree.{End, Split}
use Rattle.mill_model.proofs.Signed.{mul_le}
use Rattle.mill_model.proofs.PlanCover.{refuted}

-- a tree for the decisions leaves no legal plan that agrees within the limits
pub tree_refutes : {M : Type 0} (m : Mill) (limits : Limits) (t : Tree M Prices) (decisions : List Decision) (p : Plan) → AreAsks m decisions → RefutingTree m limits t decisions → IsLegal m p → PlanAgrees decisions p → IsWithin (sums_of m p) limits → ⊥
tree_refutes m limits (End prices) decisions p asks tree legal agree within = refuted m limits decisions prices p asks tree legal agree within
tree_refutes m limits (Split mark ask if_yes if_no) decisions p asks tree legal agree within = elim (cases_Bool (answer_of p ask)) [
  | inl e ↦ tree_refutes m limits if_yes ((ask, true) ∷ decisions) p (tree.0, asks) tree.2 legal (e, agree) within
  | inr e ↦ tree_refutes m limits if_no ((ask, false) ∷ decisions) p (tree.0, asks) tree.3 legal (e, agree) within
]

-- the rule of the ends may be weakened
pub tree_weaker : {M E : Type 0} (m : Mill) (H K : E → List Decision → Type 0) → ((e : E) (decisions : List Decision) → H e decisions → K e decisions) → (t : Tree M E) (decisions : List Decision) → IsTree m H t decisions → IsTree m K t decisions
tree_weaker m H K f (End e) decisions tree = f e decisions tree
tree_weaker m H K f (Split mark ask if_yes if_no) decisions tree =
    (tree.0, tree.1, tree_weaker m H K f if_yes ((ask, true) ∷ decisions) tree.2, tree_weaker m H K f if_no ((ask, false) ∷ decisions) tree.3)

smaller_missing : (a b : Option ℤ) (P : Type 0) → AtMost a b → IfNone b P → IfNone a P
smaller_missing None None P h q = q
smaller_missing None (Some b) P h q = absurd h
smaller_missing (Some a) b P h q = tt

smaller_price : (price : ℤ) (a b : Option ℤ) → pos 0 ≤ℤ price → IfNone b (price ≡ pos 0) → AtMost a b → (price *ℤ number_of a) ≤ℤ (price *ℤ number_of b)
smaller_price price a None sign missing h = rw missing (omega (arith, ints, zero-*ℤ (number_of a), zero-*ℤ (pos 0)))
smaller_price price None (Some b) sign missing h = absurd h
smaller_price price (Some a) (Some b) sign missing h = mul_le price a b sign h

pub refutes_smaller : (m : Mill) (a b : Limits) (decisions : List Decision) (prices : Prices) → AreSmaller a b → Refutes m b decisions prices → Refutes m a decisions prices
refutes_smaller m a b decisions prices h r = record {
  range = r.range;
  pi_length = r.pi_length;
  sigma_length = r.sigma_length;
  lambda_sign = r.lambda_sign;
  mu_sign = r.mu_sign;
  sigma_sign = r.sigma_sign;
  lambda_missing = smaller_missing a.loss b.loss (prices.lambda ≡ pos 0) h.loss r.lambda_missing;
  mu_missing = smaller_missing a.count b.count (prices.mu ≡ pos 0) h.count r.mu_missing;
  columns = r.columns;
  worth = omega (arith, ints, r.worth, smaller_price prices.lambda a.loss b.loss r.lambda_sign r.lambda_missing h.loss, smaller_price prices.mu a.count b.count r.mu_sign r.mu_missing h.count);
}

pub tree_smaller : {M : Type 0} (m : Mill) (a b : Limits) (t : Tree M Prices) (decisions : List Decision) → AreSmaller a b → RefutingTree m b t decisions → RefutingTree m a t decisions
tree_smaller m a b t decisions h = tree_weaker m (λ p ds. Refutes m b ds p) (λ p ds. Refutes m a ds p) (λ p ds r. refutes_smaller m a b ds p h r) t decisions
