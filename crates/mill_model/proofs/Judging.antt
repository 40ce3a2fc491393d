-- What a loop over the places keeps, and other forms of the rules of a plan.
use Rattle.std.proofs.Common.{◌≡◌, ℕ, suc, pos, ◌+ℤ◌, ◌≤ℤ◌, append_assoc, append-nil, ◌+◌, ◌<◌, ◌≤◌, Bool, true, false, cond, ◌||◌, eqb, List, [], ◌∷◌, ◌++◌, length, get_or, take, count_by, refl, sym, ap, ◌∙◌, inl, inr, arith, length-take, zero-add}
use Rattle.std.proofs.lemmas.List.Sums.{sum_by-cons, sum_by-append}
use Rattle.std.proofs.lemmas.List.{take_more}
use Rattle.std.proofs.lemmas.Bool.{eqb-true, eq-eqb, ne_eqb, cases_Bool, cases_eq, cases_lt, cond-true, cond-false, cond_both, both_ways, or_cases, or_left, or_right, false_from_ne_true}
use Rattle.std.proofs.lemmas.Int.{ints}
use Rattle.mill_model.specs.SignedSums.{total_below}
use Rattle.mill_model.specs.Mill.{Mill}
use Rattle.mill_model.specs.Columns.{has, different, load, order_at}
use Rattle.mill_model.specs.Plans.{places_of}
use Rattle.mill_model.proofs.Signed.{total_below-ext, total_below-le, total_below-add, total_below-zero, total_below-ones}
use Rattle.mill_model.proofs.Duality.{one_term, one_term_past}

-- ---- one more place

pub places_of-push : (k first : ℕ) (xs : List ℕ) (x : ℕ) → places_of k first (xs ++ x ∷ []) ≡ places_of k first xs ++ cond (eqb x k) ((first + length xs) ∷ []) []
places_of-push k first [] x = cond_both (eqb x k) (first ∷ []) [] (λ ys. ys ≡ cond (eqb x k) ((first + 0) ∷ []) []) (λ e. sym (cond-true (eqb x k) ((first + 0) ∷ []) [] e ∙ ap (λ n. n ∷ []) (omega arith))) (λ e. sym (cond-false (eqb x k) ((first + 0) ∷ []) [] e))
places_of-push k first (y ∷ xs) x =
    let rest : places_of k (suc first) (xs ++ x ∷ []) ≡ places_of k (suc first) xs ++ cond (eqb x k) ((first + suc (length xs)) ∷ []) [] =
    places_of-push k (suc first) xs x ∙ ap (λ n. places_of k (suc first) xs ++ cond (eqb x k) (n ∷ []) []) (omega arith) in
    by_test (eqb y k) rest
  where
    by_test : (b : Bool) → places_of k (suc first) (xs ++ x ∷ []) ≡ places_of k (suc first) xs ++ cond (eqb x k) ((first + suc (length xs)) ∷ []) []
        → cond b (first ∷ places_of k (suc first) (xs ++ x ∷ [])) (places_of k (suc first) (xs ++ x ∷ [])) ≡ cond b (first ∷ places_of k (suc first) xs) (places_of k (suc first) xs) ++ cond (eqb x k) ((first + suc (length xs)) ∷ []) []
    by_test true e = ap (λ ys. first ∷ ys) e
    by_test false e = e

-- ---- different numbers

pub has-append : (xs ys : List ℕ) (x : ℕ) → has (xs ++ ys) x ≡ (has xs x || has ys x)
has-append [] ys x = refl
has-append (y ∷ xs) ys x = ap (λ b. eqb y x || b) (has-append xs ys x) ∙ grouped (eqb y x) (has xs x) (has ys x)
  where
    grouped : (a b c : Bool) → (a || (b || c)) ≡ ((a || b) || c)
    grouped true b c = refl
    grouped false b c = refl

pub different-push : (xs : List ℕ) (x : ℕ) → different (xs ++ x ∷ []) ≡ cond (has xs x) (different xs) (suc (different xs))
different-push [] x = refl
different-push (y ∷ xs) x = elim (cases_eq y x) [
  | inl e ↦ rw (has-append xs (x ∷ []) y, eq-eqb x y (sym e), eq-eqb y x e, different-push xs x, e) (ends (has xs x) (different xs))
  | inr e ↦ rw (has-append xs (x ∷ []) y, ne_eqb x y (λ q. e (sym q)), ne_eqb y x e, different-push xs x) (steps (has xs y) (has xs x) (different xs))
]
  where
    ends : (b : Bool) (n : ℕ) → cond (b || (true || false)) (cond b n (suc n)) (suc (cond b n (suc n))) ≡ cond b n (suc n)
    ends true n = refl
    ends false n = refl

    steps : (a b : Bool) (n : ℕ) → cond (a || (false || false)) (cond b n (suc n)) (suc (cond b n (suc n))) ≡ cond b (cond a n (suc n)) (suc (cond a n (suc n)))
    steps true true n = refl
    steps true false n = refl
    steps false true n = refl
    steps false false n = refl

-- a list without the first x
without : List ℕ → ℕ → List ℕ
without [] x = []
without (y ∷ ys) x = cond (eqb y x) ys (y ∷ without ys x)

length-without : (xs : List ℕ) (x : ℕ) → has xs x ≡ true → suc (length (without xs x)) ≡ length xs
unfolding without
length-without [] x h = cc
length-without (y ∷ ys) x h = elim (cases_Bool (eqb y x)) [
  | inl e ↦ rw e refl
  | inr e ↦ rw e (ap suc (length-without ys x (rest e h)))
]
  where
    rest : eqb y x ≡ false → (eqb y x || has ys x) ≡ true → has ys x ≡ true
    rest p q = rw p at q

has-without : (xs : List ℕ) (x z : ℕ) → has xs z ≡ true → (x ≡ z → ⊥) → has (without xs x) z ≡ true
unfolding without
has-without [] x z h n = cc
has-without (y ∷ ys) x z h n = elim (cases_Bool (eqb y x)) [
  | inl e ↦ rw e (elim (or_cases (eqb y z) (has ys z) h) [ inl q ↦ absurd (n (sym (eqb-true y x e) ∙ eqb-true y z q)) | inr q ↦ q ])
  | inr e ↦ rw e (elim (or_cases (eqb y z) (has ys z) h) [ inl q ↦ or_left (eqb y z) (has (without ys x) z) q | inr q ↦ or_right (eqb y z) (has (without ys x) z) (has-without ys x z q n) ])
]

-- numbers that are all among cs are at most as many as cs
pub different_within : (xs cs : List ℕ) → ((x : ℕ) → has xs x ≡ true → has cs x ≡ true) → different xs ≤ length cs
different_within [] cs h = omega arith
different_within (x ∷ xs) cs h = elim (cases_Bool (has xs x)) [
  | inl e ↦ rw e (different_within xs cs (λ z q. h z (or_right (eqb x z) (has xs z) q)))
  | inr e ↦ rw e (omega (
    arith,
    length-without cs x (h x (or_left (eqb x x) (has xs x) (eq-eqb x x refl))),
    different_within xs (without cs x) (λ z q. has-without cs x z (h z (or_right (eqb x z) (has xs z) q)) (λ r. both_ways (has xs x) e (ap (has xs) r ∙ q))),
  ))
]

-- and there are as many numbers that have them all
pub distinct : List ℕ → List ℕ
distinct [] = []
distinct (x ∷ xs) = cond (has xs x) (distinct xs) (x ∷ distinct xs)

pub length-distinct : (xs : List ℕ) → length (distinct xs) ≡ different xs
unfolding distinct
length-distinct [] = refl
length-distinct (x ∷ xs) = elim (cases_Bool (has xs x)) [ inl e ↦ rw e (length-distinct xs) | inr e ↦ rw e (ap suc (length-distinct xs)) ]

pub has-distinct : (xs : List ℕ) (z : ℕ) → has xs z ≡ true → has (distinct xs) z ≡ true
unfolding distinct
has-distinct [] z h = h
has-distinct (x ∷ xs) z h = elim (cases_Bool (has xs x)) [
  | inl e ↦ rw e (elim (or_cases (eqb x z) (has xs z) h) [ inl q ↦ has-distinct xs z (ap (has xs) (sym (eqb-true x z q)) ∙ e) | inr q ↦ has-distinct xs z q ])
  | inr e ↦ rw e (elim (or_cases (eqb x z) (has xs z) h) [ inl q ↦ or_left (eqb x z) (has (distinct xs) z) q | inr q ↦ or_right (eqb x z) (has (distinct xs) z) (has-distinct xs z q) ])
]

-- ---- at most one

none_counted : {X : Type 0} (test : X → Bool) (xs : List X) (d : X) → ((j : ℕ) → j < length xs → test (get_or xs j d) ≡ true → ⊥) → count_by test xs ≡ 0
none_counted test [] d h = refl
none_counted test (x ∷ xs) d h = omega (arith, sum_by-cons (λ y. cond (test y) 1 0) x xs, cond-false {A = ℕ} (test x) 1 0 (false_from_ne_true (test x) (h 0 (omega arith))), none_counted test xs d (λ j l. h (suc j) (omega arith)))

pub once_from_pairs : {X : Type 0} (test : X → Bool) (xs : List X) (d : X) → ((i j : ℕ) → i < j → j < length xs → test (get_or xs i d) ≡ true → test (get_or xs j d) ≡ true → ⊥) → count_by test xs ≤ 1
once_from_pairs test [] d h = omega arith
once_from_pairs test (x ∷ xs) d h = elim (cases_Bool (test x)) [
  | inl e ↦ omega (arith, sum_by-cons (λ y. cond (test y) 1 0) x xs, cond-true {A = ℕ} (test x) 1 0 e, none_counted test xs d (λ j l. h 0 (suc j) (omega arith) (omega arith) e))
  | inr e ↦ omega (arith, sum_by-cons (λ y. cond (test y) 1 0) x xs, cond-false {A = ℕ} (test x) 1 0 e, once_from_pairs test xs d (λ i j l q. h (suc i) (suc j) (omega arith) (omega arith)))
]

-- ---- what a slab weighs, order by order

pub load-append : (m : Mill) (xs ys : List ℕ) → load m (xs ++ ys) ≡ load m xs + load m ys
load-append m xs ys = sum_by-append (λ o. (order_at m o).weight) xs ys

pub load-more : (m : Mill) (k : ℕ) (place : List ℕ) (o : ℕ) → o < length place → load m (places_of k 0 (take (o + 1) place)) ≡ load m (places_of k 0 (take o place)) + cond (eqb (get_or place o 0) k) (order_at m o).weight 0
load-more m k place o h =
    ap (λ xs. load m (places_of k 0 xs)) (take_more place o 0 h)
    ∙ ap (load m) (places_of-push k 0 (take o place) (get_or place o 0))
    ∙ load-append m (places_of k 0 (take o place)) (cond (eqb (get_or place o 0) k) ((0 + length (take o place)) ∷ []) [])
    ∙ ap (λ n. load m (places_of k 0 (take o place)) + n) (by_test (eqb (get_or place o 0) k))
  where
    by_test : (b : Bool) → load m (cond b ((0 + length (take o place)) ∷ []) []) ≡ cond b (order_at m o).weight 0
    by_test true = ap (λ n. 0 + (order_at m n).weight) (omega (arith, length-take o place)) ∙ zero-add (order_at m o).weight
    by_test false = refl

-- ---- empty slabs

pub places_of-none : (k first : ℕ) (xs : List ℕ) → has xs k ≡ false → places_of k first xs ≡ []
places_of-none k first [] e = refl
places_of-none k first (x ∷ xs) e = elim (cases_Bool (eqb x k)) [
  | inl q ↦ absurd (both_ways (eqb x k || has xs k) e (or_left (eqb x k) (has xs k) q))
  | inr q ↦ rw q (places_of-none k (suc first) xs (rest q e))
]
  where
    rest : eqb x k ≡ false → (eqb x k || has xs k) ≡ false → has xs k ≡ false
    rest p h = rw p at h

pub places_of-some : (k first : ℕ) (xs : List ℕ) → has xs k ≡ true → 0 < length (places_of k first xs)
places_of-some k first [] e = cc
places_of-some k first (x ∷ xs) e = elim (cases_Bool (eqb x k)) [
  | inl q ↦ rw q (omega arith)
  | inr q ↦ rw q (places_of-some k (suc first) xs (rest q e))
]
  where
    rest : eqb x k ≡ false → (eqb x k || has xs k) ≡ true → has xs k ≡ true
    rest p h = rw p at h

-- the slabs have at most as many orders as there are
most_places : (first n : ℕ) (xs : List ℕ) → total_below n (λ k. pos (length (places_of k first xs))) ≤ℤ pos (length xs)
most_places first n [] = omega (arith, ints, total_below-zero n)
most_places first n (x ∷ xs) =
    let split : total_below n (λ k. pos (length (places_of k first (x ∷ xs)))) ≡ total_below n (λ k. cond (eqb x k) (pos 1) (pos 0) +ℤ pos (length (places_of k (suc first) xs))) =
    total_below-ext n (λ k. pos (length (places_of k first (x ∷ xs)))) (λ k. cond (eqb x k) (pos 1) (pos 0) +ℤ pos (length (places_of k (suc first) xs))) (λ k h. apart (eqb x k) (places_of k (suc first) xs)) in
    omega (arith, ints, split, total_below-add n (λ k. cond (eqb x k) (pos 1) (pos 0)) (λ k. pos (length (places_of k (suc first) xs))), most_places (suc first) n xs, at_most_one)
  where
    apart : (b : Bool) (ys : List ℕ) → pos (length (cond b (first ∷ ys) ys)) ≡ cond b (pos 1) (pos 0) +ℤ pos (length ys)
    apart true ys = omega (arith, ints)
    apart false ys = omega (arith, ints)

    at_most_one : total_below n (λ k. cond (eqb x k) (pos 1) (pos 0)) ≤ℤ pos 1
    at_most_one = elim (cases_lt x n) [
      | inl l ↦ omega (arith, ints, one_term n x (λ _. pos 1) l)
      | inr l ↦ omega (arith, ints, one_term_past n x (λ _. pos 1) l)
    ]

-- so many slabs that each have an order are no more than the orders
pub slabs_with_orders : (n : ℕ) (place : List ℕ) → ((k : ℕ) → k < n → 0 < length (places_of k 0 place)) → n ≤ length place
slabs_with_orders n place each =
    let least : total_below n (λ _. pos 1) ≤ℤ total_below n (λ k. pos (length (places_of k 0 place))) = total_below-le n (λ _. pos 1) (λ k. pos (length (places_of k 0 place))) (λ k h. omega (arith, ints, each k h)) in
    omega (arith, ints, least, total_below-ones n, most_places 0 n place)

-- ---- colours

pub different-append_le : (xs ys : List ℕ) → different xs ≤ different (xs ++ ys)
different-append_le xs [] = rw append-nil (omega arith)
different-append_le xs (y ∷ ys) = rw (sym (append_assoc xs (y ∷ []) ys)) (omega (arith, different-append_le (xs ++ y ∷ []) ys, one_more))
  where
    one_more : different xs ≤ different (xs ++ y ∷ [])
    one_more = rw (different-push xs y) (grows (has xs y) (different xs))
      where
        grows : (b : Bool) (n : ℕ) → n ≤ cond b n (suc n)
        grows true n = omega arith
        grows false n = omega arith

pub places_of-append : (k first : ℕ) (xs ys : List ℕ) → places_of k first (xs ++ ys) ≡ places_of k first xs ++ places_of k (first + length xs) ys
places_of-append k first [] ys = ap (λ n. places_of k n ys) (omega arith)
places_of-append k first (x ∷ xs) ys = by_test (eqb x k) (places_of-append k (suc first) xs ys ∙ ap (λ n. places_of k (suc first) xs ++ places_of k n ys) (omega arith))
  where
    by_test : (b : Bool) → places_of k (suc first) (xs ++ ys) ≡ places_of k (suc first) xs ++ places_of k (first + suc (length xs)) ys
        → cond b (first ∷ places_of k (suc first) (xs ++ ys)) (places_of k (suc first) (xs ++ ys)) ≡ cond b (first ∷ places_of k (suc first) xs) (places_of k (suc first) xs) ++ places_of k (first + suc (length xs)) ys
    by_test true e = ap (λ zs. first ∷ zs) e
    by_test false e = e
