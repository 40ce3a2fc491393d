-- Heads: their last point, and where the next one goes.
use Rattle.std.proofs.Common.{◌≡◌, ◌≢◌, ℕ, zero, suc, ◌-◌, ◌<◌, ◌≤◌, ℤ, pos, ◌-ℤ◌, Bool, List, [], ◌∷◌, ◌++◌, length, refl, sym, ap, subst, ◌∙◌, inl, inr, arith, Option, Some, None, slice_get, append_assoc}
use Rattle.std.specs.Prelude.{if◌then◌else◌}
use Rattle.std.proofs.lemmas.Int.{ints}
use Rattle.std.proofs.lemmas.Bool.Decides.{eqb_tells}
use Rattle.std.proofs.lemmas.Option.{slice_get_within}
use Rattle.std.proofs.lemmas.List.Sums.{count_by-le-length}
use Rattle.mill_model.specs.declared.sums.Sums.{Sums}
use Rattle.mill_model.specs.Mill.{Mill}
use Rattle.mill_model.specs.Plans.{Plan, IsLegal, sums_of, is_new}
use Rattle.mill_model.specs.Limits.{AtMost}
use Rattle.mill_model.specs.Marks.{IsMarkedRefutation}
use Rattle.mill_model.specs.Fronts.{Point, below, Exceeds, FallsBelow, count_before, IsGoodPoint, IsGoodFrom, last_sums}
use Rattle.mill_model.proofs.Heads.{tree_least}
use Rattle.mill_model.proofs.PlanCover.{slabs_at_most_orders}
use Rattle.slab_sweep.specs.Openings.{Telling, count_after, opening_after}
use Rattle.slab_sweep.specs.Made.{IsFound}
use Rattle.slab_sweep.specs.Placing.{placed}

-- ---- the last point

same_some : (p q : Point) → Some p ≡ Some q → p ≡ q
same_some p q e = cc

pub last_at : (before : Option Sums) (points : List Point) (n : ℕ) (p : Point) → length points ≡ suc n → slice_get points n ≡ Some p → last_sums before points ≡ Some p.sums
last_at before [] n p e h = absurd (omega (arith, e))
last_at before (x ∷ []) zero p e h = ap (λ (q : Point). Some q.sums) (same_some x p h)
last_at before (x ∷ []) (suc n) p e h = absurd (omega (arith, e))
last_at before (x ∷ y ∷ ys) zero p e h = absurd (omega (arith, e))
last_at before (x ∷ y ∷ ys) (suc n) p e h = last_at (Some x.sums) (y ∷ ys) n p (omega (arith, e)) h

-- one less than its count
pub limit_at : (points : List Point) (n : ℕ) (p : Point) (z : ℤ) → n ≡ length points - 1 → Some p ≡ slice_get points n → z ≡ pos p.sums.count -ℤ pos 1 → Some z ≡ count_after (last_sums None points)
limit_at points n p z at here value =
    let after : last_sums None points ≡ Some p.sums = last_at None points n p (omega (arith, slice_get_within points n p (sym here))) (sym here) in
    ap (λ (x : ℤ). Some x) value ∙ ap count_after (sym after)

-- a legal plan has at most as many new slabs as the mill has orders
pub few_new : (m : Mill) (p : Plan) → IsLegal m p → (sums_of m p).count ≤ length m.orders
few_new m p legal = omega (arith, count_by-le-length is_new p.kinds, slabs_at_most_orders m p legal)

-- ---- the next point

-- it takes the last one's place or comes after it
pub place_cases : (last point : Point) (P : List Point → Type 0) → (last.sums.loss ≡ point.sums.loss → P (record point { steps = last.steps } ∷ [])) → (last.sums.loss ≢ point.sums.loss → P (last ∷ point ∷ [])) → P (placed (last ∷ []) point)
place_cases last point P same other = elim (eqb_tells last.sums.loss point.sums.loss) [
  | inl h ↦ subst (λ (b : Bool). P (if b then record point { steps = last.steps } ∷ [] else last ∷ point ∷ [])) (sym h.0) (same h.1)
  | inr h ↦ subst (λ (b : Bool). P (if b then record point { steps = last.steps } ∷ [] else last ∷ point ∷ [])) (sym h.0) (other h.1)
]

pub last_placed : (before : Option Sums) (points : List Point) (point : Point) → last_sums before (placed points point) ≡ Some point.sums
last_placed before [] point = refl
last_placed before (last ∷ []) point = place_cases last point (λ zs. last_sums before zs ≡ Some point.sums) (λ e. refl) (λ n. refl)
last_placed before (first ∷ next ∷ points) point = last_placed (Some first.sums) (next ∷ points) point

-- where the last point is known
pub placed-push : (front : List Point) (last point : Point) → placed (front ++ last ∷ []) point ≡ front ++ placed (last ∷ []) point
placed-push [] last point = refl
placed-push (x ∷ []) last point = refl
placed-push (x ∷ y ∷ front) last point = ap (λ (zs : List Point). x ∷ zs) (placed-push (y ∷ front) last point)

pub placed_same : (old front new : List Point) (last point : Point) → old ≡ front ++ last ∷ [] → last.sums.loss ≡ point.sums.loss → new ≡ front ++ record point { steps = last.steps } ∷ [] → new ≡ placed old point
placed_same old front new last point before same after =
    after
    ∙ place_cases last point (λ zs. front ++ record point { steps = last.steps } ∷ [] ≡ front ++ zs) (λ e. refl) (λ other. absurd (other same))
    ∙ sym (placed-push front last point)
    ∙ ap (λ (zs : List Point). placed zs point) (sym before)

pub placed_other : (old front mid new : List Point) (last point : Point) → old ≡ front ++ last ∷ [] → last.sums.loss ≢ point.sums.loss → mid ≡ front ++ last ∷ [] → new ≡ mid ++ point ∷ [] → new ≡ placed old point
placed_other old front mid new last point before other between after =
    after
    ∙ ap (λ (zs : List Point). zs ++ point ∷ []) between
    ∙ append_assoc front (last ∷ []) (point ∷ [])
    ∙ place_cases last point (λ zs. front ++ last ∷ point ∷ [] ≡ front ++ zs) (λ same. absurd (other same)) (λ n. refl)
    ∙ sym (placed-push front last point)
    ∙ ap (λ (zs : List Point). placed zs point) (sym before)

falls : (after : Option Sums) (n : ℕ) → AtMost (Some (pos n)) (count_after after) → FallsBelow n after
falls None n h = tt
falls (Some last) n h = omega (arith, ints, h)

falls_further : (before : Option Sums) (n k : ℕ) → n ≤ k → FallsBelow k before → FallsBelow n before
falls_further None n k le h = tt
falls_further (Some last) n k le h = omega (arith, h)

within : (before : Option Sums) (n k : ℕ) → n ≤ k → FallsBelow k before → AtMost (Some (pos n)) (count_after before)
within None n k le h = tt
within (Some last) n k le h = omega (arith, ints, h)

module _ (told : Telling) (m : Mill) where
  pub found_falls : (after : Option Sums) (point : Point) → IsFound m (opening_after told m after) point → FallsBelow point.sums.count after
  found_falls after point found = subst (λ (s : Sums). FallsBelow s.count after) found.sums (falls after (sums_of m point.plan).count found.least.start.count)

  next_point : (after : Option Sums) (point : Point) → IsFound m (opening_after told m after) point → Exceeds point.sums.loss after → IsGoodPoint m after point
  next_point after point found more = record {
    loss = more;
    count = found_falls after point found;
    legal = found.least.start.legal;
    sums = found.sums;
    order = found.least.start.order;
    steps = found.tree.tight.refutation;
  }

  -- no plan with fewer new slabs than the last point has less loss
  no_less : (before : Option Sums) (last point : Point) → IsGoodPoint m before last → IsFound m (opening_after told m (Some last.sums)) point → last.sums.loss ≤ point.sums.loss
  no_less before last point good found =
      let fewer : (sums_of m point.plan).count < last.sums.count = falls (Some last.sums) (sums_of m point.plan).count found.least.start.count in
      omega (arith, ap (λ (s : Sums). s.loss) found.sums, tree_least m last.sums.loss (count_after before) last.steps point.plan good.steps found.least.start.legal (within before (sums_of m point.plan).count last.sums.count (omega arith) good.count))

  in_place : (before : Option Sums) (last point : Point) → IsGoodPoint m before last → IsFound m (opening_after told m (Some last.sums)) point → last.sums.loss ≡ point.sums.loss → IsGoodPoint m before (record point { steps = last.steps })
  in_place before last point good found same = record {
    loss = subst (λ (n : ℕ). Exceeds n before) same good.loss;
    count = falls_further before point.sums.count last.sums.count (omega (arith, found_falls (Some last.sums) point found)) good.count;
    legal = found.least.start.legal;
    sums = found.sums;
    order = found.least.start.order;
    steps = subst (λ (n : ℕ). IsMarkedRefutation m (record { loss = below (Some n); count = below (count_before before) }) [] last.steps) same good.steps;
  }

  pub good_placed : (before : Option Sums) (points : List Point) (point : Point) → IsGoodFrom m before points → IsFound m (opening_after told m (last_sums before points)) point → (length points ≡ 0 → Exceeds point.sums.loss before) → IsGoodFrom m before (placed points point)
  good_placed before [] point good found first = (next_point before point found (first refl), tt)
  good_placed before (last ∷ []) point good found first = place_cases last point (λ zs. IsGoodFrom m before zs)
      (λ same. (in_place before last point good.0 found same, tt))
      (λ other. (good.0, (next_point (Some last.sums) point found (omega (arith, no_less before last point good.0 found, other)), tt)))
  good_placed before (x ∷ next ∷ points) point good found first = (good.0, good_placed (Some x.sums) (next ∷ points) point good.1 found (λ e. absurd (omega (arith, e))))

-- the last point of a good head has at most as many new slabs as the mill has orders
pub few_last : (m : Mill) (before : Option Sums) (points : List Point) (last : Sums) → IsGoodFrom m before points → last_sums before points ≡ Some last → ((s : Sums) → before ≡ Some s → s.count ≤ length m.orders) → last.count ≤ length m.orders
few_last m before [] last good e h = h last e
few_last m before (point ∷ points) last good e h = few_last m (Some point.sums) points last good.1 e (λ s is. subst (λ (x : Sums). x.count ≤ length m.orders) (good.0.sums ∙ the_sums s is) (few_new m point.plan good.0.legal))
  where
    the_sums : (s : Sums) → Some point.sums ≡ Some s → point.sums ≡ s
    the_sums s is = cc
