-- Parts of a list, distinct numbers, and what is left of a queue.
use Rattle.std.proofs.Math.ListN.{get_or-append}
use Rattle.std.proofs.Common.{◌≡◌, inl, inr, ℕ, zero, suc, ◌+◌, ◌-◌, ◌<◌, ◌≤◌, Bool, true, false, ◌&&◌, ◌||◌, eqb, List, [], ◌∷◌, ◌++◌, length, get_or, take, refl, sym, subst, ap, ap₂, ◌∙◌, arith, add-one}
use Rattle.std.specs.List.{filter}
use Rattle.std.proofs.Math.Seq.{get_or-append_seam, take-append_seam}
use Rattle.std.proofs.lemmas.Bool.{cases_Bool, cases_eq, cond_both, eqb-true, eq-eqb, ne_eqb, or_cases, or_left, or_right, both_ways}
use Rattle.std.proofs.lemmas.List.{length_push}
use Rattle.mill_model.specs.Columns.{Rises, has, different}
use Rattle.mill_model.proofs.Duality.{not_has}
use Rattle.mill_model.proofs.Judging.{different_within, distinct, length-distinct, has-distinct, has-append}
use Rattle.pricing_laws.specs.Parts.{AreDistinct, IsPart, left_of}

-- ---- which numbers a list has

pub has_none : (x : ℕ) → has [] x ≡ true → ⊥
has_none x e = cc

pub has_here : (x : ℕ) (xs : List ℕ) → has (x ∷ xs) x ≡ true
has_here x xs = or_left (eqb x x) (has xs x) (eq-eqb x x refl)

pub has_later : (x y : ℕ) (xs : List ℕ) → has xs x ≡ true → has (y ∷ xs) x ≡ true
has_later x y xs e = or_right (eqb y x) (has xs x) e

pub has_left : (xs ys : List ℕ) (x : ℕ) → has xs x ≡ true → has (xs ++ ys) x ≡ true
has_left xs ys x e = has-append xs ys x ∙ or_left (has xs x) (has ys x) e

pub has_right : (xs ys : List ℕ) (x : ℕ) → has ys x ≡ true → has (xs ++ ys) x ≡ true
has_right xs ys x e = has-append xs ys x ∙ or_right (has xs x) (has ys x) e

pub has_at : (xs : List ℕ) (k : ℕ) → k < length xs → has xs (get_or xs k 0) ≡ true
has_at [] k h = absurd (omega arith)
has_at (x ∷ xs) zero h = has_here x xs
has_at (x ∷ xs) (suc k) h = has_later (get_or xs k 0) x xs (has_at xs k (omega arith))

-- a number that doesn't pass a test that each number of the list passes isn't among them
pub has_not : (P : ℕ → Type 0) (xs : List ℕ) (x : ℕ) → ((y : ℕ) → has xs y ≡ true → P y) → (P x → ⊥) → has xs x ≡ false
has_not P xs x each refused = elim (cases_Bool (has xs x)) [ inl e ↦ absurd (refused (each x e)) | inr e ↦ e ]

-- ---- distinct numbers

pub different-distinct : (xs : List ℕ) → AreDistinct xs → different xs ≡ length xs
different-distinct [] h = refl
different-distinct (x ∷ xs) h = rw h.0 (ap suc (different-distinct xs h.1))

-- distinct numbers of a list are no more than it has different ones
pub distinct_few : (xs ys : List ℕ) → AreDistinct xs → ((x : ℕ) → has xs x ≡ true → has ys x ≡ true) → length xs ≤ different ys
distinct_few xs ys d h = omega (arith, different-distinct xs d, different_within xs (distinct ys) (λ x e. has-distinct ys x (h x e)), length-distinct ys)

numbers_below : ℕ → List ℕ
numbers_below zero = []
numbers_below (suc n) = n ∷ numbers_below n

length-numbers_below : (n : ℕ) → length (numbers_below n) ≡ n
unfolding numbers_below
length-numbers_below zero = refl
length-numbers_below (suc n) = ap suc (length-numbers_below n)

has-numbers_below : (n x : ℕ) → x < n → has (numbers_below n) x ≡ true
unfolding numbers_below
has-numbers_below zero x h = absurd (omega arith)
has-numbers_below (suc n) x h = elim (cases_eq n x) [
  | inl e ↦ or_left (eqb n x) (has (numbers_below n) x) (eq-eqb n x e)
  | inr ne ↦ has_later x n (numbers_below n) (has-numbers_below n x (omega arith))
]

-- distinct numbers below one are no more than it
pub distinct_below : (xs : List ℕ) (n : ℕ) → AreDistinct xs → ((x : ℕ) → has xs x ≡ true → x < n) → length xs ≤ n
distinct_below xs n d h = omega (arith, different-distinct xs d, length-numbers_below n, different_within xs (numbers_below n) (λ x e. has-numbers_below n x (h x e)))

pub distinct_rising : (low high : ℕ) (xs : List ℕ) → Rises low high xs → AreDistinct xs
distinct_rising low high [] r = tt
distinct_rising low high (x ∷ xs) r = (not_has (x + 1) high xs x r.2 (omega arith), distinct_rising (x + 1) high xs r.2)

pub below_rising : (low high : ℕ) (xs : List ℕ) → Rises low high xs → (x : ℕ) → has xs x ≡ true → x < high
below_rising low high [] r x e = absurd (has_none x e)
below_rising low high (y ∷ ys) r x e = elim (or_cases (eqb y x) (has ys x) e) [
  | inl q ↦ omega (arith, eqb-true y x q, r.1)
  | inr q ↦ below_rising (y + 1) high ys r.2 x q
]

-- ---- parts

pub part_nil : (ys : List ℕ) → IsPart [] ys
part_nil [] = refl
part_nil (y ∷ ys) = inl (part_nil ys)

pub part_has : (xs ys : List ℕ) → IsPart xs ys → (x : ℕ) → has xs x ≡ true → has ys x ≡ true
part_has xs [] part x e = subst (λ (zs : List ℕ). has zs x ≡ true) part e
part_has xs (y ∷ ys) (inl part) x e = has_later x y ys (part_has xs ys part x e)
part_has xs (y ∷ ys) (inr (zs, q, part)) x e = elim (or_cases (eqb y x) (has zs x) (sym (ap (λ (us : List ℕ). has us x) q) ∙ e)) [
  | inl s ↦ or_left (eqb y x) (has ys x) s
  | inr s ↦ has_later x y ys (part_has zs ys part x s)
]

pub part_distinct : (xs ys : List ℕ) → IsPart xs ys → AreDistinct ys → AreDistinct xs
part_distinct xs [] part d = subst AreDistinct (sym part) tt
part_distinct xs (y ∷ ys) (inl part) d = part_distinct xs ys part d.1
part_distinct xs (y ∷ ys) (inr (zs, q, part)) d =
    subst AreDistinct (sym q) (has_not (λ z. has ys z ≡ true) zs y (part_has zs ys part) (λ e. both_ways (has ys y) d.0 e), part_distinct zs ys part d.1)

pub part_filter : (test : ℕ → Bool) (ys : List ℕ) → IsPart (filter test ys) ys
part_filter test [] = refl
part_filter test (y ∷ ys) = cond_both (test y) (y ∷ filter test ys) (filter test ys) (λ zs. IsPart zs (y ∷ ys))
    (λ _. inr (filter test ys, refl, part_filter test ys)) (λ _. inl (part_filter test ys))

pub has-filter : (test : ℕ → Bool) (ys : List ℕ) (x : ℕ) → has (filter test ys) x ≡ (has ys x && test x)
has-filter test [] x = refl
has-filter test (y ∷ ys) x = elim (cases_eq y x) [
  | inl e ↦ cond_both (test y) (y ∷ filter test ys) (filter test ys) (λ zs. has zs x ≡ ((eqb y x || has ys x) && test x))
      (λ q. rw (eq-eqb y x e) (sym (ap test (sym e) ∙ q)))
      (λ q. rw (eq-eqb y x e) (has-filter test ys x ∙ neither (has ys x) (test x) (ap test (sym e) ∙ q)))
  | inr n ↦ cond_both (test y) (y ∷ filter test ys) (filter test ys) (λ zs. has zs x ≡ ((eqb y x || has ys x) && test x))
      (λ _. rw (ne_eqb y x n) (has-filter test ys x))
      (λ _. rw (ne_eqb y x n) (has-filter test ys x))
]
  where
    neither : (a b : Bool) → b ≡ false → (a && b) ≡ b
    neither true b e = refl
    neither false b e = sym e

-- ---- what is left of a queue

pub left_more : (queue : List ℕ) (k : ℕ) → left_of queue (k + 1) ≡ get_or queue k 0 ∷ left_of queue k
left_more queue k = rw add-one refl

left_append : (queue more : List ℕ) (k : ℕ) → k ≤ length queue → left_of (queue ++ more) k ≡ left_of queue k
left_append queue more zero h = refl
left_append queue more (suc k) h = ap₂ ◌∷◌ (get_or-append queue more 0 k (omega arith)) (left_append queue more k (omega arith))

pub left_push : (queue : List ℕ) (x : ℕ) → left_of (queue ++ x ∷ []) (length (queue ++ x ∷ [])) ≡ x ∷ left_of queue (length queue)
left_push queue x =
    ap (left_of (queue ++ x ∷ [])) (length_push queue x)
    ∙ left_more (queue ++ x ∷ []) (length queue)
    ∙ ap₂ ◌∷◌ (get_or-append_seam queue x [] 0) (left_append queue (x ∷ []) (length queue) (omega arith))

pub length-left_of : (queue : List ℕ) (k : ℕ) → length (left_of queue k) ≡ k
length-left_of queue zero = refl
length-left_of queue (suc k) = omega (arith, length-left_of queue k)

pub has_left_of : (queue : List ℕ) (n k : ℕ) → k < n → has (left_of queue n) (get_or queue k 0) ≡ true
has_left_of queue zero k h = absurd (omega arith)
has_left_of queue (suc n) k h = elim (cases_eq k n) [
  | inl e ↦ or_left (eqb (get_or queue n 0) (get_or queue k 0)) (has (left_of queue n) (get_or queue k 0)) (eq-eqb (get_or queue n 0) (get_or queue k 0) (ap (λ i. get_or queue i 0) (sym e)))
  | inr ne ↦ has_later (get_or queue k 0) (get_or queue n 0) (left_of queue n) (has_left_of queue n k (omega arith))
]

-- the next one alone is a part of what is left
pub part_next : (queue : List ℕ) (k : ℕ) (more : List ℕ) → IsPart more (left_of queue k) → IsPart (get_or queue k 0 ∷ more) (left_of queue (k + 1))
part_next queue k more part = subst (λ (ys : List ℕ). IsPart (get_or queue k 0 ∷ more) ys) (sym (left_more queue k)) (inr (more, refl, part))

pub part_later : (queue : List ℕ) (k : ℕ) (more : List ℕ) → IsPart more (left_of queue k) → IsPart more (left_of queue (k + 1))
part_later queue k more part = subst (λ (ys : List ℕ). IsPart more ys) (sym (left_more queue k)) (inl part)

-- a number of a list stands somewhere
pub place_in : (xs : List ℕ) (x : ℕ) → has xs x ≡ true → (k : ℕ) × (k < length xs) × (get_or xs k 0 ≡ x)
place_in [] x e = absurd (has_none x e)
place_in (y ∷ ys) x e = elim (or_cases (eqb y x) (has ys x) e) [
  | inl q ↦ (0, omega arith, eqb-true y x q)
  | inr q ↦ later (place_in ys x q)
]
  where
    later : ((k : ℕ) × (k < length ys) × (get_or ys k 0 ≡ x)) → (k : ℕ) × (k < length (y ∷ ys)) × (get_or (y ∷ ys) k 0 ≡ x)
    later (k, h, s) = (suc k, omega arith, s)

pub place_in_left : (queue : List ℕ) (n x : ℕ) → has (left_of queue n) x ≡ true → (k : ℕ) × (k < n) × (get_or queue k 0 ≡ x)
place_in_left queue zero x e = absurd (has_none x e)
place_in_left queue (suc n) x e = elim (or_cases (eqb (get_or queue n 0) x) (has (left_of queue n) x) e) [
  | inl q ↦ (n, omega arith, eqb-true (get_or queue n 0) x q)
  | inr q ↦ later (place_in_left queue n x q)
]
  where
    later : ((k : ℕ) × (k < n) × (get_or queue k 0 ≡ x)) → (k : ℕ) × (k < suc n) × (get_or queue k 0 ≡ x)
    later (k, h, s) = (k, omega arith, s)

-- what is left of the whole queue has the queue's numbers
pub has_whole : (queue : List ℕ) (x : ℕ) → has queue x ≡ true → has (left_of queue (length queue)) x ≡ true
has_whole queue x e = there (place_in queue x e)
  where
    there : ((k : ℕ) × (k < length queue) × (get_or queue k 0 ≡ x)) → has (left_of queue (length queue)) x ≡ true
    there (k, h, s) = subst (λ (y : ℕ). has (left_of queue (length queue)) y ≡ true) s (has_left_of queue (length queue) k h)

pub whole_has : (queue : List ℕ) (n x : ℕ) → n ≤ length queue → has (left_of queue n) x ≡ true → has queue x ≡ true
whole_has queue n x le e = there (place_in_left queue n x e)
  where
    there : ((k : ℕ) × (k < n) × (get_or queue k 0 ≡ x)) → has queue x ≡ true
    there (k, h, s) = subst (λ (y : ℕ). has queue y ≡ true) s (has_at queue k (omega (arith, h, le)))

distinct_at : (xs : List ℕ) (i k : ℕ) → AreDistinct xs → i < k → k < length xs → get_or xs i 0 ≡ get_or xs k 0 → ⊥
distinct_at [] i k d h l e = absurd (omega arith)
distinct_at (x ∷ xs) zero zero d h l e = absurd (omega arith)
distinct_at (x ∷ xs) zero (suc k) d h l e = both_ways (has xs x) d.0 (ap (has xs) e ∙ has_at xs k (omega arith))
distinct_at (x ∷ xs) (suc i) zero d h l e = absurd (omega arith)
distinct_at (x ∷ xs) (suc i) (suc k) d h l e = distinct_at xs i k d.1 (omega arith) (omega arith) e

pub left_distinct : (queue : List ℕ) (n : ℕ) → n ≤ length queue → AreDistinct queue → AreDistinct (left_of queue n)
left_distinct queue zero le d = tt
left_distinct queue (suc n) le d = (
  elim (cases_Bool (has (left_of queue n) (get_or queue n 0))) [
    | inl e ↦ absurd (twice (place_in_left queue n (get_or queue n 0) e))
    | inr e ↦ e
  ],
  left_distinct queue n (omega arith) d,
)
  where
    twice : ((k : ℕ) × (k < n) × (get_or queue k 0 ≡ get_or queue n 0)) → ⊥
    twice (k, h, s) = distinct_at queue k n d h (omega arith) s

-- a push and a pop leave the list as it was
pub popped : (xs ys zs : List ℕ) (y n : ℕ) → ys ≡ xs ++ y ∷ [] → n ≡ length ys → zs ≡ take (n - 1) ys → zs ≡ xs
popped xs ys zs y n pushed long rest =
    let size : length ys ≡ length xs + 1 = ap length pushed ∙ length_push xs y in
    let short : n - 1 ≡ length xs = omega arith in
    rest ∙ ap (λ k. take k ys) short ∙ ap (λ (us : List ℕ). take (length xs) us) pushed ∙ take-append_seam xs (y ∷ [])

take_has : (xs : List ℕ) (k x : ℕ) → has (take k xs) x ≡ true → (i : ℕ) × (i < k) × (i < length xs) × (get_or xs i 0 ≡ x)
take_has xs zero x e = absurd (has_none x e)
take_has [] (suc k) x e = absurd (has_none x e)
take_has (y ∷ ys) (suc k) x e = elim (or_cases (eqb y x) (has (take k ys) x) e) [
  | inl q ↦ (0, omega arith, omega arith, eqb-true y x q)
  | inr q ↦ later (take_has ys k x q)
]
  where
    later : ((i : ℕ) × (i < k) × (i < length ys) × (get_or ys i 0 ≡ x)) → (i : ℕ) × (i < suc k) × (i < length (y ∷ ys)) × (get_or (y ∷ ys) i 0 ≡ x)
    later (i, h, l, s) = (suc i, omega arith, omega arith, s)

-- a number of a distinct list doesn't stand before itself
pub distinct_take : (xs : List ℕ) (k : ℕ) → AreDistinct xs → k < length xs → has (take k xs) (get_or xs k 0) ≡ false
distinct_take xs k d h = elim (cases_Bool (has (take k xs) (get_or xs k 0))) [
  | inl e ↦ absurd (twice (take_has xs k (get_or xs k 0) e))
  | inr e ↦ e
]
  where
    twice : ((i : ℕ) × (i < k) × (i < length xs) × (get_or xs i 0 ≡ get_or xs k 0)) → ⊥
    twice (i, l, m, s) = distinct_at xs i k d l h s
