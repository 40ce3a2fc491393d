-- Sums over the numbers below one, and over those of them that pass a test.
use Rattle.std.proofs.Common.{◌≡◌, ◌++◌, ℕ, zero, suc, ◌+◌, ◌<◌, ◌≤◌, Bool, true, false, cond, ◌&&◌, ◌||◌, eqb, ltb, leb, List, [], ◌∷◌, length, get_or, count_by, sum_by, map, All, refl, sym, ap, ◌∙◌, subst, inl, inr, arith}
use Rattle.std.specs.List.{filter, range_with_len}
use Rattle.std.proofs.lemmas.Bool.{cases_Bool, eq-eqb, eqb-true, or_parts}
use Rattle.std.proofs.lemmas.Bool.Decides.{nat_tests}
use Rattle.std.proofs.Common.{append-nil}
use Rattle.std.proofs.lemmas.List.Sums.{sum_by-cons, get_or-le-sum_by}
use Rattle.std.proofs.lemmas.List.FromFn.{length-range_with_len, get_or-range_with_len, fill_by_all}
use Rattle.std.proofs.lemmas.List.Elements.{All-from_get_or, filter-append}
use Rattle.std.proofs.lemmas.List.{map_push}
use Rattle.slab_filling.proofs.Ranges.{range_more}
use Rattle.slab_filling.proofs.Counts.{one, none, sum_by-map, count-range}
use Rattle.slab_filling.proofs.Counts.{sum_by-same}

pub All-range : (P : ℕ → Type 0) (n : ℕ) → ((k : ℕ) → k < n → P k) → All P (range_with_len 0 n)
All-range P n h = All-from_get_or P (range_with_len 0 n) 0 (λ i l. let k : i < n = omega (arith, length-range_with_len 0 n) in subst P (sym (get_or-range_with_len 0 n i 0 k ∙ omega arith)) (h i k))

pub sum_by-range : {X : Type 0} (f : X → ℕ) (xs : List X) (d : X) → sum_by (λ k. f (get_or xs k d)) (range_with_len 0 (length xs)) ≡ sum_by f xs
sum_by-range f xs d =
    sym (sum_by-map f (λ k. get_or xs k d) (range_with_len 0 (length xs)))
    ∙ sym (ap (sum_by f) (fill_by_all (λ k. get_or xs k d) xs (length xs) d refl (λ k h. refl)))

pub sum_by-filter : {X : Type 0} (f : X → ℕ) (test : X → Bool) (xs : List X) → sum_by f (filter test xs) ≡ sum_by (λ x. cond (test x) (f x) 0) xs
sum_by-filter f test [] = refl
sum_by-filter f test (x ∷ xs) = by_test (test x) (sum_by-filter f test xs) ∙ sym (sum_by-cons (λ y. cond (test y) (f y) 0) x xs)
  where
    by_test : (b : Bool) → sum_by f (filter test xs) ≡ sum_by (λ y. cond (test y) (f y) 0) xs → sum_by f (cond b (x ∷ filter test xs) (filter test xs)) ≡ cond b (f x) 0 + sum_by (λ y. cond (test y) (f y) 0) xs
    by_test true rest = omega (arith, sum_by-cons f x (filter test xs), rest)
    by_test false rest = omega (arith, rest)

pub sum_by-none : {X : Type 0} (f : X → ℕ) (xs : List X) → ((x : X) → f x ≡ 0) → sum_by f xs ≡ 0
sum_by-none f [] h = refl
sum_by-none f (x ∷ xs) h = omega (arith, sum_by-cons f x xs, h x, sum_by-none f xs h)

-- each number below n that passes stands among those once
pub count-filter : (test : ℕ → Bool) (o n : ℕ) → o < n → count_by (λ k. eqb k o) (filter test (range_with_len 0 n)) ≡ cond (test o) 1 0
count-filter test o n h = sum_by-filter (λ k. cond (eqb k o) 1 0) test (range_with_len 0 n) ∙ elim (cases_Bool (test o)) [
  | inl t ↦ sum_by-same (λ k. cond (test k) (cond (eqb k o) 1 0) 0) (λ k. cond (eqb k o) 1 0) (range_with_len 0 n) (λ k. passing k t)
      ∙ count-range o 0 n ∙ one (leb 0 o && ltb o (0 + n)) (grind (arith, nat_tests)) ∙ sym (one (test o) t)
  | inr e ↦ sum_by-none (λ k. cond (test k) (cond (eqb k o) 1 0) 0) (range_with_len 0 n) (λ k. failing k e) ∙ sym (none (test o) e)
]
  where
    passing : (k : ℕ) → test o ≡ true → ◌≡◌ {A = ℕ} (cond (test k) (cond (eqb k o) 1 0) 0) (cond (eqb k o) 1 0)
    passing k t = elim (cases_Bool (eqb k o)) [
      | inl e ↦ rw (e, ap test (eqb-true k o e) ∙ t) refl
      | inr e ↦ rw e (either (test k))
    ]
      where
        either : (b : Bool) → ◌≡◌ {A = ℕ} (cond b 0 0) 0
        either true = refl
        either false = refl

    failing : (k : ℕ) → test o ≡ false → ◌≡◌ {A = ℕ} (cond (test k) (cond (eqb k o) 1 0) 0) 0
    failing k f = elim (cases_Bool (eqb k o)) [
      | inl e ↦ rw (e, ap test (eqb-true k o e) ∙ f) refl
      | inr e ↦ rw e (either (test k))
    ]
      where
        either : (b : Bool) → ◌≡◌ {A = ℕ} (cond b 0 0) 0
        either true = refl
        either false = refl

-- of what holds of at most one number below n: whether it holds of a or of b
pub one_of : (test : ℕ → Bool) (n a b : ℕ) → a < n → b < n → sum_by (λ k. cond (eqb k a || eqb k b) (cond (test k) 1 0) 0) (range_with_len 0 n) ≤ 1
    → sum_by (λ k. cond (eqb k a || eqb k b) (cond (test k) 1 0) 0) (range_with_len 0 n) ≡ cond (test a || test b) 1 0
one_of test n a b la lb few = elim (cases_Bool (test a || test b)) [
  | inl t ↦ omega (arith, few, one (test a || test b) t, some t)
  | inr e ↦ sum_by-none f (range_with_len 0 n) (λ k. failing k (or_parts (test a) (test b) e)) ∙ sym (none (test a || test b) e)
]
  where
    f : ℕ → ℕ
    f k = cond (eqb k a || eqb k b) (cond (test k) 1 0) 0

    here : (k : ℕ) → k < n → f k ≤ sum_by f (range_with_len 0 n)
    here k l = subst (λ j. f j ≤ sum_by f (range_with_len 0 n)) (get_or-range_with_len 0 n k 0 l ∙ omega arith) (get_or-le-sum_by f (range_with_len 0 n) k 0 (omega (arith, length-range_with_len 0 n)))

    first : test a ≡ true → f a ≡ 1
    first t = rw (eq-eqb a a refl, t) refl

    second : test b ≡ true → f b ≡ 1
    second t = let e : (eqb b a || eqb b b) ≡ true = rw (eq-eqb b b refl) (either (eqb b a)) in rw (e, t) refl
      where
        either : (c : Bool) → (c || true) ≡ true
        either true = refl
        either false = refl

    some : (test a || test b) ≡ true → 1 ≤ sum_by f (range_with_len 0 n)
    some t = elim (cases_Bool (test a)) [
      | inl e ↦ omega (arith, here a la, first e)
      | inr e ↦ omega (arith, here b lb, second (sym (ap (λ c. c || test b) e) ∙ t))
    ]

    failing : (k : ℕ) → (test a ≡ false) × (test b ≡ false) → f k ≡ 0
    failing k both = elim (cases_Bool (eqb k a)) [
      | inl e ↦ rw (e, ap test (eqb-true k a e) ∙ both.0) refl
      | inr e ↦ elim (cases_Bool (eqb k b)) [
        | inl q ↦ rw (e, q, ap test (eqb-true k b q) ∙ both.1) refl
        | inr q ↦ rw (e, q) refl
      ]
    ]

-- ---- one number more

filter_more : (test : ℕ → Bool) (n : ℕ) → filter test (range_with_len 0 (n + 1)) ≡ filter test (range_with_len 0 n) ++ cond (test n) (n ∷ []) []
filter_more test n = let last : 0 + n ≡ n = omega arith in
    ap (filter test) (range_more 0 n) ∙ filter-append test (range_with_len 0 n) ((0 + n) ∷ []) ∙ ap (λ k. filter test (range_with_len 0 n) ++ cond (test k) (k ∷ []) []) last

pub filter_passed : (test : ℕ → Bool) (n : ℕ) → test n ≡ true → filter test (range_with_len 0 (n + 1)) ≡ filter test (range_with_len 0 n) ++ n ∷ []
filter_passed test n e = filter_more test n ∙ ap (λ b. filter test (range_with_len 0 n) ++ cond b (n ∷ []) []) e

pub filter_failed : (test : ℕ → Bool) (n : ℕ) → test n ≡ false → filter test (range_with_len 0 (n + 1)) ≡ filter test (range_with_len 0 n)
filter_failed test n e = filter_more test n ∙ ap (λ b. filter test (range_with_len 0 n) ++ cond b (n ∷ []) []) e ∙ append-nil (filter test (range_with_len 0 n))

pub map_passed : {X : Type 0} (f : ℕ → X) (test : ℕ → Bool) (n : ℕ) → test n ≡ true → map f (filter test (range_with_len 0 (n + 1))) ≡ map f (filter test (range_with_len 0 n)) ++ f n ∷ []
map_passed f test n e = ap (map f) (filter_passed test n e) ∙ map_push f (filter test (range_with_len 0 n)) n

pub map_failed : {X : Type 0} (f : ℕ → X) (test : ℕ → Bool) (n : ℕ) → test n ≡ false → map f (filter test (range_with_len 0 (n + 1))) ≡ map f (filter test (range_with_len 0 n))
map_failed f test n e = ap (map f) (filter_failed test n e)

pub any_default : {X : Type 0} (xs : List X) (k : ℕ) (d e : X) → k < length xs → get_or xs k d ≡ get_or xs k e
any_default [] k d e h = absurd (omega arith)
any_default (x ∷ xs) zero d e h = refl
any_default (x ∷ xs) (suc k) d e h = any_default xs k d e (omega arith)
