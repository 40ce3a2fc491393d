-- Slabs that are numbered by their least order, place by place.
use Rattle.std.proofs.Common.{◌≡◌, ℕ, zero, suc, ◌+◌, ◌<◌, ◌≤◌, Bool, true, false, eqb, cond, List, [], ◌∷◌, ◌++◌, length, refl, sym, ap, ◌∙◌, subst, arith, inl, inr, length-append, get_or, take, not}
use Rattle.std.specs.List.{position_or_len}
use Rattle.std.proofs.lemmas.List.Folds.{position_or_len_push}
use Rattle.std.proofs.lemmas.Bool.{cases_eq, cases_lt, eq-eqb, ne_eqb, true≢false}
use Rattle.std.proofs.lemmas.List.{get_or-take, length-take-le}
use Rattle.std.proofs.lemmas.List.Sums.{fails_before_first, passes_at_first}
use Rattle.mill_model.specs.Mill.{Mill}
use Rattle.mill_model.specs.Plans.{Plan, IsLegal, places_of}
use Rattle.slab_repack.specs.FoundPlans.{AreNumberedBelow, AreNumberedSoFar, AreUsed}

abbrev first : List ℕ → ℕ → ℕ
first xs k = position_or_len (λ x. eqb x k) xs

-- one place more
push_there : (xs : List ℕ) (y k : ℕ) → first xs k < length xs → first (xs ++ y ∷ []) k ≡ first xs k
push_there xs y k lt = position_or_len_push (λ x. eqb x k) xs y ∙ ap (λ b. cond b (length xs + cond (eqb y k) 0 1) (first xs k)) (ne_eqb (first xs k) (length xs) (λ e. absurd (omega arith)))

push_here : (xs : List ℕ) (y k : ℕ) → first xs k ≡ length xs → eqb y k ≡ true → first (xs ++ y ∷ []) k ≡ length xs
push_here xs y k e same = position_or_len_push (λ x. eqb x k) xs y ∙ ap (λ b. cond b (length xs + cond (eqb y k) 0 1) (first xs k)) (eq-eqb (first xs k) (length xs) e) ∙ ap (λ b. length xs + cond {A = ℕ} b 0 1) same ∙ omega arith

push_none : (xs : List ℕ) (y k : ℕ) → first xs k ≡ length xs → eqb y k ≡ false → first (xs ++ y ∷ []) k ≡ length (xs ++ y ∷ [])
push_none xs y k e other = position_or_len_push (λ x. eqb x k) xs y ∙ ap (λ b. cond b (length xs + cond (eqb y k) 0 1) (first xs k)) (eq-eqb (first xs k) (length xs) e) ∙ ap (λ b. length xs + cond {A = ℕ} b 0 1) other ∙ omega (arith, length-append xs (y ∷ []))

-- of a slab that has a place already
pub known_place : (xs : List ℕ) (next y : ℕ) → y < next → AreNumberedSoFar xs next → AreNumberedSoFar (xs ++ y ∷ []) next
known_place xs next y lt h = record {
  rise = λ k le. omega (arith, push_there xs y k (h.there k (omega arith)), push_there xs y (suc k) (h.there (suc k) le), h.rise k le);
  there = λ k le. omega (arith, push_there xs y k (h.there k le), h.there k le, length-append xs (y ∷ []));
  others = λ k le. push_none xs y k (h.others k le) (ne_eqb y k (λ e. absurd (omega arith)));
}

-- of the next slab
pub next_place : (xs : List ℕ) (next : ℕ) → AreNumberedSoFar xs next → AreNumberedSoFar (xs ++ next ∷ []) (next + 1)
next_place xs next h = record {
  rise = λ k le. rises k le;
  there = λ k le. elim (cases_eq k next) [
    | inl e ↦ omega (arith, at_next k e, length-append xs (next ∷ []))
    | inr ne ↦ omega (arith, push_there xs next k (h.there k (omega arith)), h.there k (omega arith), length-append xs (next ∷ []))
  ];
  others = λ k le. push_none xs next k (h.others k (omega arith)) (ne_eqb next k (λ e. absurd (omega arith)));
}
  where
    at_next : (k : ℕ) → k ≡ next → first (xs ++ next ∷ []) k ≡ length xs
    at_next k e = push_here xs next k (h.others k (omega arith)) (eq-eqb next k (sym e))

    rises : (k : ℕ) → suc k < next + 1 → first (xs ++ next ∷ []) k < first (xs ++ next ∷ []) (suc k)
    rises k le = elim (cases_eq (suc k) next) [
      | inl e ↦ omega (arith, at_next (suc k) e, push_there xs next k (h.there k (omega arith)), h.there k (omega arith))
      | inr ne ↦ omega (arith, push_there xs next k (h.there k (omega arith)), push_there xs next (suc k) (h.there (suc k) (omega arith)), h.rise k (omega arith))
    ]

pub none_numbered : AreNumberedSoFar [] 0
none_numbered = record { rise = λ k le. absurd (omega arith); there = λ k le. absurd (omega arith); others = λ k le. refl }

pub fewer_numbered : (xs : List ℕ) (next slabs : ℕ) → slabs ≤ next → AreNumberedSoFar xs next → AreNumberedBelow xs slabs
fewer_numbered xs next slabs le h = λ k lt. h.rise k (omega arith)

-- numbers whose first places rise one by one rise altogether
later_first : (xs : List ℕ) (slabs j k : ℕ) → AreNumberedBelow xs slabs → j < k → k < slabs → first xs j < first xs k
later_first xs slabs j zero h lt below = absurd (omega arith)
later_first xs slabs j (suc k) h lt below = elim (cases_eq j k) [
  | inl e ↦ let P : ℕ → Type 0 = λ i. first xs i < first xs (suc k) in subst P (sym e) (h k below)
  | inr ne ↦ omega (arith, later_first xs slabs j k h (omega arith) (omega arith), h k below)
]

-- a number is no later than any place that has it
no_later : (xs : List ℕ) (i : ℕ) → first xs (get_or xs i 0) ≤ i
no_later xs i = elim (cases_lt i (first xs (get_or xs i 0))) [
  | inl before ↦ absurd (true≢false (sym (eq-eqb (get_or xs i 0) (get_or xs i 0) refl) ∙ fails_before_first (λ x. eqb x (get_or xs i 0)) xs i 0 before))
  | inr le ↦ le
]

-- a slab beyond the next number breaks the order
pub beyond_next : (xs : List ℕ) (next slabs i : ℕ) → i < length xs → next < get_or xs i 0 → AreNumberedSoFar (take i xs) next → AreUsed xs slabs → AreNumberedBelow xs slabs → ⊥
beyond_next xs next slabs i at lt so_far used h = true≢false (sym there ∙ not_there)
  where
    earlier : first xs next < i
    earlier = omega (arith, no_later xs i, later_first xs slabs next (get_or xs i 0) h lt (used.others i at))

    there : eqb (get_or xs (first xs next) 0) next ≡ true
    there = passes_at_first (λ x. eqb x next) xs 0 (omega (arith, earlier, at))

    none_so_far : first (take i xs) next ≡ length (take i xs)
    none_so_far = so_far.others next (omega arith)

    not_there : eqb (get_or xs (first xs next) 0) next ≡ false
    not_there =
        ap (λ x. eqb x next) (sym (get_or-take i xs (first xs next) 0 earlier))
        ∙ fails_before_first (λ x. eqb x next) (take i xs) (first xs next) 0 (omega (arith, none_so_far, length-take-le i xs (omega (arith, at)), earlier))

-- where all slabs have an order, none is left at the end
pub none_left : (xs : List ℕ) (next slabs : ℕ) → AreNumberedSoFar xs next → AreUsed xs slabs → slabs ≤ next
none_left xs next slabs so_far used = elim (cases_lt next slabs) [
  | inl lt ↦ absurd (omega (arith, used.some next lt, so_far.others next (omega arith)))
  | inr le ↦ le
]

-- a slab with an order has a first one
used_slab : (k n : ℕ) (xs : List ℕ) → 0 < length (places_of k n xs) → first xs k < length xs
used_slab k n [] some = absurd (omega (arith, some))
used_slab k n (x ∷ xs) some =
    let P : Bool → Type 0 = λ b. 0 < length (cond b (n ∷ places_of k (suc n) xs) (places_of k (suc n) xs)) → cond (not b) (1 + first xs k) 0 < suc (length xs) in
    (elim (eqb x k) as P [
      | true ↦ λ h. omega arith
      | false ↦ λ h. omega (arith, used_slab k (suc n) xs h)
    ]) some

-- the slabs of a legal plan
pub used_slabs : (m : Mill) (p : Plan) → IsLegal m p → AreUsed p.place (length p.kinds)
used_slabs m p legal = record { some = λ k lt. used_slab k 0 p.place (legal.fits k lt).some; others = legal.within }
