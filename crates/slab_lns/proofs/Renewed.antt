-- Rounds keep a plan legal, in order and within the limit, and make it no worse.
use Rattle.std.proofs.Common.{◌≡◌, ℕ, zero, suc, ◌<◌, ℤ, Bool, true, false, cond, ◌&&◌, ◌||◌, eqb, ltb, leb, List, [], length, Option, Some, None, IfSome, refl, sym, ap, ◌∙◌, inl, inr, arith}
use Rattle.std.proofs.lemmas.Bool.{cases_Bool, ltb-true, leb-true, eqb-true, and_parts}
use Rattle.mill_model.specs.declared.sums.Sums.{Sums}
use Rattle.mill_model.specs.Mill.{Mill, IsInLimits}
use Rattle.mill_model.specs.Starts.{IsStart}
use Rattle.mill_model.specs.Columns.{Column}
use Rattle.mill_model.specs.Plans.{Plan, sums_of}
use Rattle.number_draws.specs.Draws.{next_draw}
use Rattle.slab_filling.specs.Closing.{closed_slabs, plan_of_filled}
use Rattle.slab_filling.proofs.Filled.{AreFilled}
use Rattle.slab_filling.proofs.Closed.{close_all, start}
use Rattle.number_draws.specs.Draws.{among}
use Rattle.slab_lns.specs.Neighbourhoods.{slabs_of, kept, released}
use Rattle.slab_lns.specs.Options.{place_all}
use Rattle.slab_lns.specs.Rounds.{Round, IsKeptBetter, IsNoWorse, is_no_worse, no_worse_plan, renewed, round_among, round, after_rounds, plan_after_rounds}
use Rattle.slab_lns.proofs.PlanSlabs.{length-slabs_of, start_closed}
use Rattle.slab_lns.proofs.Kept.{kept_filled}
use Rattle.slab_lns.proofs.Placed.{all_filled}

pub as_bad : (x : Sums) → IsNoWorse x x
as_bad x = record { loss = omega arith; count = λ _. omega arith }

pub no_worse_after : (x y z : Sums) → IsNoWorse x y → IsNoWorse y z → IsNoWorse x z
no_worse_after x y z a b = record { loss = omega (arith, a.loss, b.loss); count = λ e. omega (arith, a.count (omega (arith, a.loss, b.loss)), b.count (omega (arith, a.loss, b.loss))) }

pub no_worse_tested : (new old : Sums) → is_no_worse new old ≡ true → IsNoWorse new old
no_worse_tested new old e = elim (cases_Bool (ltb new.loss old.loss)) [
  | inl t ↦ let l = ltb-true new.loss old.loss t in record { loss = omega arith; count = λ q. absurd (omega arith) }
  | inr f ↦ let both = and_parts (eqb new.loss old.loss) (leb new.count old.count) (sym (ap (λ b. b || (eqb new.loss old.loss && leb new.count old.count)) f) ∙ e) in
      let same : new.loss ≡ old.loss = eqb-true new.loss old.loss both.0 in record { loss = omega arith; count = λ _. leb-true new.count old.count both.1 }
]

pub no_worse_kept : (m : Mill) (limit : Option ℤ) (p : Plan) (placed : Option (List Column)) → IsInLimits m → IsStart m limit p → IfSome placed (AreFilled m limit []) → IsKeptBetter m limit p (no_worse_plan m p placed)
no_worse_kept m limit p None limits s f = record { start = s; better = as_bad (sums_of m p) }
no_worse_kept m limit p (Some slabs) limits s f = by_test (is_no_worse (sums_of m (plan_of_filled m slabs)) (sums_of m p)) refl
  where
    by_test : (b : Bool) → is_no_worse (sums_of m (plan_of_filled m slabs)) (sums_of m p) ≡ b → IsKeptBetter m limit p (cond b (plan_of_filled m slabs) p)
    by_test true e = record { start = start m limit (closed_slabs m slabs) (close_all m limit slabs limits f); better = no_worse_tested (sums_of m (plan_of_filled m slabs)) (sums_of m p) e }
    by_test false e = record { start = s; better = as_bad (sums_of m p) }

if_found : {X : Type 0} (P : X → Type 0) (found : Option X) → ((x : X) → found ≡ Some x → P x) → IfSome found P
if_found P None h = tt
if_found P (Some x) h = h x refl

pub renewed_kept : (m : Mill) (limit : Option ℤ) (p : Plan) (a b last : ℕ) → IsInLimits m → IsStart m limit p → a < length p.kinds → b < length p.kinds → IsKeptBetter m limit p (renewed m limit p a b last).plan
renewed_kept m limit p a b last limits s la lb =
    let slabs = slabs_of p in
    let placed = (place_all m limit (released m a b slabs) (kept m a b slabs) last).found in
    no_worse_kept m limit p placed limits s (if_found (AreFilled m limit []) placed
    (λ found e. all_filled m limit (released m a b slabs) (kept m a b slabs) last found
    (kept_filled m limit slabs a b (omega (arith, length-slabs_of p)) (omega (arith, length-slabs_of p)) (start_closed m limit p s)) e))

within : (k x : ℕ) → among (suc k) x < suc k
within k x = omega arith

pub round_kept : (m : Mill) (limit : Option ℤ) (r : Round) → IsInLimits m → IsStart m limit r.plan → IsKeptBetter m limit r.plan (round m limit r).plan
round_kept m limit r limits s = by_count (length r.plan.kinds) refl
  where
    by_count : (n : ℕ) → length r.plan.kinds ≡ n → IsKeptBetter m limit r.plan (round_among n m limit r).plan
    by_count zero e = record { start = s; better = as_bad (sums_of m r.plan) }
    by_count (suc k) e =
        let first = next_draw r.last in
        let second = next_draw first in
        renewed_kept m limit r.plan (among (suc k) first) (among (suc k) second) second limits s (omega (arith, within k first)) (omega (arith, within k second))

pub rounds_kept : (m : Mill) (limit : Option ℤ) (rounds : ℕ) (r : Round) → IsInLimits m → IsStart m limit r.plan → IsKeptBetter m limit r.plan (after_rounds m limit rounds r).plan
rounds_kept m limit zero r limits s = record { start = s; better = as_bad (sums_of m r.plan) }
rounds_kept m limit (suc rounds) r limits s =
    let before = rounds_kept m limit rounds r limits s in
    let last = round_kept m limit (after_rounds m limit rounds r) limits before.start in
    record { start = last.start; better = no_worse_after (sums_of m (after_rounds m limit (suc rounds) r).plan) (sums_of m (after_rounds m limit rounds r).plan) (sums_of m r.plan) last.better before.better }

pub plan_kept : (m : Mill) (limit : Option ℤ) (rounds seed : ℕ) (p : Plan) → IsInLimits m → IsStart m limit p → IsKeptBetter m limit p (plan_after_rounds rounds seed m limit p)
plan_kept m limit rounds seed p = rounds_kept m limit rounds (record { plan = p; last = seed })
