-- A legal plan and its slabs: agreement with decisions, and the plan as a cover.
use Rattle.std.proofs.Common.{◌≡◌, ℕ, zero, suc, ◌+◌, ◌<◌, ◌≤◌, Bool, true, false, cond, not, ◌&&◌, eqb, List, [], ◌∷◌, length, get_or, slice_index, slice_index_or, count_by, sym, refl, ap, ◌∙◌, inl, inr, arith, add-one}
use Rattle.std.specs.List.{AllByRecursion}
use Rattle.std.proofs.lemmas.List.Sums.{sum_by-cons, get_or-le-sum_by}
use Rattle.std.proofs.lemmas.Bool.{eqb-true, eqb-false, cond-true, eq-eqb, ne_eqb, cases_eq, and_from, not-true, cond_both, false_from_ne_true, and_parts, both_ways}
use Rattle.mill_model.specs.declared.kind.Kind.{Kind}
use Rattle.mill_model.specs.declared.kind.Kind.TheVariants.{New}
use Rattle.mill_model.specs.declared.ask.Ask.{Ask}
use Rattle.mill_model.specs.declared.ask.Ask.TheVariants.{Pair, Put}
use Rattle.mill_model.specs.Mill.{Mill}
use Rattle.mill_model.specs.Plans.{Plan, places_of, slab, IsLegal}
use Rattle.mill_model.specs.Columns.{has, is_old, Rises}
use Rattle.mill_model.specs.Decisions.{Decision, IsAsk, answer_of, PlanAgrees, agrees, column_agrees}
use Rattle.mill_model.proofs.Duality.{not_has}

-- ---- the places of a number

pub Rises-lower : (low least high : ℕ) (xs : List ℕ) → least ≤ low → Rises low high xs → Rises least high xs
Rises-lower low least high [] h r = tt
Rises-lower low least high (x ∷ xs) h r = (omega (arith, r.0), r.1, r.2)

pub places_rise : (k first high : ℕ) (xs : List ℕ) → first + length xs ≤ high → Rises first high (places_of k first xs)
places_rise k first high [] h = tt
places_rise k first high (x ∷ xs) h =
    cond_both (eqb x k) (first ∷ places_of k (suc first) xs) (places_of k (suc first) xs) (λ ys. Rises first high ys)
    (λ _. (omega arith, omega arith, rw add-one (places_rise k (suc first) high xs (omega arith))))
    (λ _. Rises-lower (suc first) first high (places_of k (suc first) xs) (omega arith) (places_rise k (suc first) high xs (omega arith)))

-- a number is at a place if the place is one of its places
pub has_places : (k first : ℕ) (xs : List ℕ) (o j : ℕ) → o ≡ first + j → j < length xs → has (places_of k first xs) o ≡ eqb (get_or xs j 0) k
has_places k first [] o j e h = absurd (omega arith)
has_places k first (x ∷ xs) o zero e h =
    cond_both (eqb x k) (first ∷ places_of k (suc first) xs) (places_of k (suc first) xs) (λ ys. has ys o ≡ eqb x k)
    (λ q. rw (eq-eqb first o (omega arith), q) refl)
    (λ q. not_has (suc first) (suc first + length xs) (places_of k (suc first) xs) o (places_rise k (suc first) (suc first + length xs) xs (omega arith)) (omega arith) ∙ sym q)
has_places k first (x ∷ xs) o (suc j) e h =
    cond_both (eqb x k) (first ∷ places_of k (suc first) xs) (places_of k (suc first) xs) (λ ys. has ys o ≡ eqb (get_or xs j 0) k)
    (λ q. rw (ne_eqb first o (λ z. omega arith)) (has_places k (suc first) xs o j (omega arith) (omega arith)))
    (λ q. has_places k (suc first) xs o j (omega arith) (omega arith))

counted : (b : Bool) → b ≡ true → ◌≡◌ {A = ℕ} (cond b 1 0) 1
counted b e = cond-true {A = ℕ} b 1 0 e

-- what passes only once is at one place
pub once_same : {X : Type 0} (test : X → Bool) (xs : List X) (i k : ℕ) (d : X) → count_by test xs ≤ 1 → i < length xs → k < length xs → test (get_or xs i d) ≡ true → test (get_or xs k d) ≡ true → i ≡ k
once_same test [] i k d h p q s t = absurd (omega arith)
once_same test (x ∷ xs) zero zero d h p q s t = refl
once_same test (x ∷ xs) zero (suc k) d h p q s t = absurd (omega (arith, sum_by-cons (λ y. cond (test y) 1 0) x xs, counted (test x) s, get_or-le-sum_by (λ y. cond (test y) 1 0) xs k d (omega arith), counted (test (get_or xs k d)) t))
once_same test (x ∷ xs) (suc i) zero d h p q s t = absurd (omega (arith, sum_by-cons (λ y. cond (test y) 1 0) x xs, counted (test x) t, get_or-le-sum_by (λ y. cond (test y) 1 0) xs i d (omega arith), counted (test (get_or xs i d)) s))
once_same test (x ∷ xs) (suc i) (suc k) d h p q s t = ap suc (once_same test xs i k d (omega (arith, sum_by-cons (λ y. cond (test y) 1 0) x xs)) (omega arith) (omega arith) s t)

-- ---- agreement

alike : (t : Bool) → cond t t (not t) ≡ true
alike true = refl
alike false = refl

not_both : (s t : Bool) → (s ≡ true → t ≡ true → ⊥) → not (s && t) ≡ true
not_both true true h = absurd (h refl refl)
not_both true false h = refl
not_both false t h = refl

module _ (m : Mill) (p : Plan) (legal : IsLegal m p) where
  abbrev pub place : ℕ → ℕ
  place o = slice_index p.place o

  abbrev pub kind : ℕ → Kind
  kind k = slice_index_or p.kinds k (New 0)

  -- slab k has the orders that lie on it
  pub has_order : (k o : ℕ) → o < length m.orders → has (slab p k).orders o ≡ eqb (place o) k
  has_order k o h = has_places k 0 p.place o o (omega arith) (omega (arith, legal.places))

  pub on_a_slab : (o : ℕ) → o < length m.orders → place o < length p.kinds
  on_a_slab o h = legal.within o (omega (arith, legal.places))

  -- the slab of an order on surplus slab s is the only one that is s
  pub only_slab : (o s k : ℕ) → o < length m.orders → k < length p.kinds → is_old s (kind (place o)) ≡ true → is_old s (kind k) ≡ eqb (place o) k
  only_slab o s k h l e = elim (cases_eq (place o) k) [
    | inl q ↦ ap (λ j. is_old s (kind j)) (sym q) ∙ e ∙ sym (eq-eqb (place o) k q)
    | inr q ↦ false_from_ne_true (is_old s (kind k)) (λ t. q (once_same (is_old s) p.kinds (place o) k (New 0) (legal.once s) (on_a_slab o h) l e t)) ∙ sym (ne_eqb (place o) k q)
  ]

  agrees_from_answer : (ask : Ask) (b : Bool) → IsAsk m ask → answer_of p ask ≡ b → (k : ℕ) → k < length p.kinds → agrees (slab p k) (ask, b) ≡ true
  agrees_from_answer (Pair i j) true h e k l =
      rw (has_order k i (omega arith), has_order k j (omega arith), eqb-true (place i) (place j) e) (alike (eqb (place j) k))
  agrees_from_answer (Pair i j) false h e k l =
      rw (has_order k i (omega arith), has_order k j (omega arith)) (not_both (eqb (place i) k) (eqb (place j) k) (λ s t. eqb-false (place i) (place j) e (eqb-true (place i) k s ∙ sym (eqb-true (place j) k t))))
  agrees_from_answer (Put o s) true h e k l =
      rw (has_order k o h.0, only_slab o s k h.0 l e) (alike (eqb (place o) k))
  agrees_from_answer (Put o s) false h e k l =
      rw (has_order k o h.0) (not_both (eqb (place o) k) (is_old s (kind k)) (λ a b. both_ways (is_old s (kind (place o))) e (ap (λ j. is_old s (kind j)) (eqb-true (place o) k a) ∙ b)))

  answer_from_agrees : (ask : Ask) (b : Bool) → IsAsk m ask → ((k : ℕ) → k < length p.kinds → agrees (slab p k) (ask, b) ≡ true) → answer_of p ask ≡ b
  answer_from_agrees (Pair i j) true h f =
      let e : cond (has (slab p (place i)).orders i) (has (slab p (place i)).orders j) (not (has (slab p (place i)).orders j)) ≡ true = f (place i) (on_a_slab i (omega arith)) in
      let t : has (slab p (place i)).orders j ≡ true = sym (cond-true (has (slab p (place i)).orders i) (has (slab p (place i)).orders j) (not (has (slab p (place i)).orders j)) (has_order (place i) i (omega arith) ∙ eq-eqb (place i) (place i) refl)) ∙ e in
      eq-eqb (place i) (place j) (sym (eqb-true (place j) (place i) (sym (has_order (place i) j (omega arith)) ∙ t)))
  answer_from_agrees (Pair i j) false h f =
      ne_eqb (place i) (place j) (λ q. both_ways (has (slab p (place i)).orders i && has (slab p (place i)).orders j)
      (not-true (has (slab p (place i)).orders i && has (slab p (place i)).orders j) (f (place i) (on_a_slab i (omega arith))))
      (and_from (has (slab p (place i)).orders i) (has (slab p (place i)).orders j) (has_order (place i) i (omega arith) ∙ eq-eqb (place i) (place i) refl) (has_order (place i) j (omega arith) ∙ eq-eqb (place j) (place i) (sym q))))
  answer_from_agrees (Put o s) true h f =
      sym (cond-true (has (slab p (place o)).orders o) (is_old s (kind (place o))) (not (is_old s (kind (place o)))) (has_order (place o) o h.0 ∙ eq-eqb (place o) (place o) refl)) ∙ f (place o) (on_a_slab o h.0)
  answer_from_agrees (Put o s) false h f =
      false_from_ne_true (is_old s (kind (place o))) (λ t. both_ways (has (slab p (place o)).orders o && is_old s (kind (place o)))
      (not-true (has (slab p (place o)).orders o && is_old s (kind (place o))) (f (place o) (on_a_slab o h.0)))
      (and_from (has (slab p (place o)).orders o) (is_old s (kind (place o))) (has_order (place o) o h.0 ∙ eq-eqb (place o) (place o) refl) t))

  -- a plan agrees with decisions where all its slabs do
  pub slabs_agree : (decisions : List Decision) → AllByRecursion (λ (d : Decision). IsAsk m d.0) decisions → PlanAgrees decisions p → (k : ℕ) → k < length p.kinds → column_agrees decisions (slab p k) ≡ true
  slabs_agree [] a h k l = refl
  slabs_agree (d ∷ decisions) a h k l = and_from (agrees (slab p k) d) (column_agrees decisions (slab p k)) (agrees_from_answer d.0 d.1 a.0 h.0 k l) (slabs_agree decisions a.1 h.1 k l)

  pub plan_agrees : (decisions : List Decision) → AllByRecursion (λ (d : Decision). IsAsk m d.0) decisions → ((k : ℕ) → k < length p.kinds → column_agrees decisions (slab p k) ≡ true) → PlanAgrees decisions p
  plan_agrees [] a h = tt
  plan_agrees (d ∷ decisions) a h = (
    answer_from_agrees d.0 d.1 a.0 (λ k l. (and_parts (agrees (slab p k) d) (column_agrees decisions (slab p k)) (h k l)).0),
    plan_agrees decisions a.1 (λ k l. (and_parts (agrees (slab p k) d) (column_agrees decisions (slab p k)) (h k l)).1),
  )
