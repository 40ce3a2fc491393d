-- Orders that are covered, one after another.
use Rattle.std.proofs.Common.{◌≡◌, ◌≢◌, ◌<◌, ◌≤◌, ◌+◌, ℕ, zero, suc, Bool, true, false, ◌||◌, cond, eqb, inl, inr, List, [], ◌∷◌, length, get_or, take, refl, ap, sym, subst, ◌∙◌, arith, get_or-set_other, get_or-set_same}
use Rattle.std.specs.List.{list_any}
use Rattle.std.proofs.Math.ListN.{set}
use Rattle.std.proofs.lemmas.Bool.{cases_Bool, cases_eq, or_cases, eq-eqb, ne_eqb, eqb-true}
use Rattle.std.proofs.lemmas.List.{length-set}
use Rattle.std.proofs.lemmas.List.Folds.{list_any_more}
use Rattle.mill_model.specs.Columns.{Rises, has}
use Rattle.cert_slabs.specs.Tallies.{AreWithin, IsAdded}
use Rattle.cert_slabs.proofs.Rising.{rises_at, new_at}

has_more : (orders : List ℕ) (i o : ℕ) → i < length orders → has (take (i + 1) orders) o ≡ (has (take i orders) o || eqb (get_or orders i 0) o)
has_more orders i o h = list_any_more (λ y. eqb y o) orders i 0 h

-- an element is there
pub still_there : (orders : List ℕ) (i : ℕ) → i < length orders → has orders (get_or orders i 0) ≡ true
still_there [] i h = absurd (omega (arith, h))
still_there (x ∷ xs) zero h = ap (λ b. b || has xs x) (eq-eqb x x refl)
still_there (x ∷ xs) (suc i) h = ap (λ b. eqb x (get_or xs i 0) || b) (still_there xs i (omega (arith, h))) ∙ or_true (eqb x (get_or xs i 0))
  where
    or_true : (b : Bool) → (b || true) ≡ true
    or_true true = refl
    or_true false = refl

module _ (before now orders : List ℕ) (times i : ℕ) (added : IsAdded before now (take i orders) times) (rise : Rises 0 (length before) orders) (h : i < length orders) (place : ℕ) (is : place ≡ get_or orders i 0) where
  inside : place < length before
  inside = omega (arith, is, (rises_at 0 (length before) orders i rise h).1)

  -- the order that comes next was not covered before
  pub at_index : get_or now place 0 ≡ get_or before place 0
  at_index =
      let fresh : has (take i orders) place ≡ false = subst (λ o. has (take i orders) o ≡ false) (sym is) (new_at 0 (length before) orders i rise h) in
      let e : get_or now place 0 ≡ get_or before place 0 + 0 = added.added place inside ∙ ap (λ b. get_or before place 0 + cond b times 0) fresh in
      omega (arith, e)

  pub added_more : IsAdded before (set now place (get_or now place 0 + times)) (take (i + 1) orders) times
  added_more = record {
    length_stays = length-set now place (get_or now place 0 + times) ∙ added.length_stays;
    added = λ o l. elim (cases_eq o place) [
      | inl same ↦ subst (λ x. get_or (set now place (get_or now place 0 + times)) x 0 ≡ get_or before x 0 + cond (has (take (i + 1) orders) x) times 0) (sym same) here
      | inr other ↦ get_or-set_other now place o (get_or now place 0 + times) 0 other ∙ added.added o l ∙ ap (λ b. get_or before o 0 + cond b times 0) (sym (unchanged o other))
    ];
  }
    where
      or_false : (b : Bool) → (b || false) ≡ b
      or_false true = refl
      or_false false = refl

      or_true : (b : Bool) → (b || true) ≡ true
      or_true true = refl
      or_true false = refl

      unchanged : (o : ℕ) → o ≢ place → has (take (i + 1) orders) o ≡ has (take i orders) o
      unchanged o other = has_more orders i o h ∙ ap (λ b. has (take i orders) o || b) (ne_eqb (get_or orders i 0) o (λ e. other (sym e ∙ sym is))) ∙ or_false (has (take i orders) o)

      there : has (take (i + 1) orders) place ≡ true
      there = has_more orders i place h ∙ ap (λ b. has (take i orders) place || b) (eq-eqb (get_or orders i 0) place (sym is)) ∙ or_true (has (take i orders) place)

      here : get_or (set now place (get_or now place 0 + times)) place 0 ≡ get_or before place 0 + cond (has (take (i + 1) orders) place) times 0
      here = get_or-set_same now place (get_or now place 0 + times) 0 (omega (arith, inside, added.length_stays)) ∙ ap (λ n. n + times) at_index ∙ ap (λ b. get_or before place 0 + cond b times 0) (sym there)

pub fits_more : (before orders : List ℕ) (times most i : ℕ) → i < length orders → ((o : ℕ) → has (take i orders) o ≡ true → get_or before o 0 + times ≤ most) → (place : ℕ) → place ≡ get_or orders i 0 → get_or before place 0 + times ≤ most
    → (o : ℕ) → has (take (i + 1) orders) o ≡ true → get_or before o 0 + times ≤ most
fits_more before orders times most i h fits place is here o there = elim (or_cases (has (take i orders) o) (eqb (get_or orders i 0) o) (sym (has_more orders i o h) ∙ there)) [
  | inl earlier ↦ fits o earlier
  | inr now ↦ subst (λ x. get_or before x 0 + times ≤ most) (is ∙ eqb-true (get_or orders i 0) o now) here
]

pub within_more : (most : ℕ) (sums : List ℕ) (place y : ℕ) → place < length sums → AreWithin most sums → y ≤ most → AreWithin most (set sums place y)
within_more most sums place y h within small i l = elim (cases_eq i place) [
  | inl same ↦ subst (λ n. n ≤ most) (sym (ap (λ x. get_or (set sums place y) x 0) same ∙ get_or-set_same sums place y 0 h)) small
  | inr other ↦ subst (λ n. n ≤ most) (sym (get_or-set_other sums place i y 0 other)) (within i (omega (arith, l, length-set sums place y)))
]
