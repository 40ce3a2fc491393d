-- What passes a test exactly once, and where it stands.
use Rattle.std.proofs.Common.{◌≡◌, ℕ, zero, suc, ◌+◌, ◌<◌, Bool, true, false, cond, ◌&&◌, ◌||◌, eqb, ltb, leb, List, [], ◌∷◌, length, get_or, count_by, sum_by, map, Some, All, refl, sym, ap, ◌∙◌, subst, inl, inr, arith}
use Rattle.std.specs.List.{position_or_len, range_with_len, find, list_any}
use Rattle.std.proofs.lemmas.Bool.{cases_Bool, cases_eq, cond-true, cond-false, eq-eqb, ne_eqb}
use Rattle.std.proofs.lemmas.List.Sums.{sum_by-cons, sum_by-le-sum_by, get_or-le-sum_by}
use Rattle.std.proofs.lemmas.List.Folds.{fold-map}
use Rattle.std.proofs.lemmas.List.Elements.{All-head, All-tail}
use Rattle.std.proofs.lemmas.Option.{same_Some}
use Rattle.std.proofs.lemmas.Bool.Decides.{nat_tests}

pub one : (b : Bool) → b ≡ true → ◌≡◌ {A = ℕ} (cond b 1 0) 1
one b e = cond-true {A = ℕ} b 1 0 e

pub none : (b : Bool) → b ≡ false → ◌≡◌ {A = ℕ} (cond b 1 0) 0
none b e = cond-false {A = ℕ} b 1 0 e

pub sum_by-map : {X Y : Type 0} (f : Y → ℕ) (g : X → Y) (xs : List X) → sum_by f (map g xs) ≡ sum_by (λ x. f (g x)) xs
sum_by-map f g xs = fold-map (λ s y. s + f y) g 0 xs

pub sum_by-same : {X : Type 0} (f g : X → ℕ) (xs : List X) → ((x : X) → f x ≡ g x) → sum_by f xs ≡ sum_by g xs
sum_by-same f g xs same = omega (arith, sum_by-le-sum_by f g xs (λ x. omega (arith, same x)), sum_by-le-sum_by g f xs (λ x. omega (arith, same x)))

pub counted-cons : {X : Type 0} (test : X → Bool) (x : X) (xs : List X) → count_by test (x ∷ xs) ≡ cond (test x) 1 0 + count_by test xs
counted-cons test x xs = sum_by-cons (λ y. cond (test y) 1 0) x xs

-- what no member passes
pub none_passes : {X : Type 0} (test : X → Bool) (xs : List X) (k : ℕ) (d : X) → count_by test xs ≡ 0 → k < length xs → test (get_or xs k d) ≡ false
none_passes test xs k d e h = elim (cases_Bool (test (get_or xs k d))) [
  | inl t ↦ absurd (omega (arith, get_or-le-sum_by (λ y. cond (test y) 1 0) xs k d h, one (test (get_or xs k d)) t))
  | inr f ↦ f
]

pub first_within : {X : Type 0} (test : X → Bool) (xs : List X) → 0 < count_by test xs → position_or_len test xs < length xs
first_within test [] h = absurd (omega arith)
first_within test (x ∷ xs) h = elim (cases_Bool (test x)) [
  | inl t ↦ rw t (omega arith)
  | inr f ↦ rw f (let rest : position_or_len test xs < length xs = first_within test xs (omega (arith, counted-cons test x xs, none (test x) f)) in omega arith)
]

-- what passes once stands at the first place that passes
pub first_is_only : {X : Type 0} (test : X → Bool) (xs : List X) (k : ℕ) (d : X) → count_by test xs ≡ 1 → k < length xs → eqb (position_or_len test xs) k ≡ test (get_or xs k d)
first_is_only test [] k d e h = absurd (omega arith)
first_is_only test (x ∷ xs) zero d e h = elim (cases_Bool (test x)) [
  | inl t ↦ rw t refl
  | inr f ↦ rw f (ne_eqb (1 + position_or_len test xs) 0 (λ q. omega arith))
]
first_is_only test (x ∷ xs) (suc k) d e h = elim (cases_Bool (test x)) [
  | inl t ↦ rw t (ne_eqb 0 (suc k) (λ q. omega arith) ∙ sym (none_passes test xs k d (omega (arith, counted-cons test x xs, one (test x) t)) (omega arith)))
  | inr f ↦ rw f (shifted (position_or_len test xs) ∙ first_is_only test xs k d (omega (arith, counted-cons test x xs, none (test x) f)) (omega arith))
]
  where
    shifted : (n : ℕ) → eqb (1 + n) (suc k) ≡ eqb n k
    shifted n = elim (cases_eq n k) [
      | inl q ↦ eq-eqb (1 + n) (suc k) (omega arith) ∙ sym (eq-eqb n k q)
      | inr ne ↦ ne_eqb (1 + n) (suc k) (λ q. ne (omega arith)) ∙ sym (ne_eqb n k ne)
    ]

-- what is found passes, and has what each member has
pub find_has : {X : Type 0} (P : X → Type 0) (test : X → Bool) (xs : List X) (y : X) → All P xs → find test xs ≡ Some y → P y × (test y ≡ true)
find_has P test [] y all e = cc
find_has P test (x ∷ xs) y all e = elim (cases_Bool (test x)) [
  | inl t ↦ here t (same_Some x y (sym (cond-true (test x) (Some x) (find test xs) t) ∙ e))
  | inr f ↦ find_has P test xs y (All-tail P x xs all) (sym (cond-false (test x) (Some x) (find test xs) f) ∙ e)
]
  where
    here : test x ≡ true → x ≡ y → P y × (test y ≡ true)
    here t q = (subst P q (All-head P x xs all), ap test (sym q) ∙ t)

-- a test of what each member becomes
pub any-map : {X Y : Type 0} (test : Y → Bool) (f : X → Y) (xs : List X) → list_any test (map f xs) ≡ list_any (λ x. test (f x)) xs
any-map test f [] = refl
any-map test f (x ∷ xs) = ap (λ b. test (f x) || b) (any-map test f xs)

-- each number of a range stands in it once
pub count-range : (o a n : ℕ) → count_by (λ k. eqb k o) (range_with_len a n) ≡ cond (leb a o && ltb o (a + n)) 1 0
count-range o a zero = sym (none (leb a o && ltb o (a + 0)) (grind (arith, nat_tests)))
count-range o a (suc n) =
    let rest : count_by (λ k. eqb k o) (range_with_len (a + 1) n) ≡ cond (leb (a + 1) o && ltb o (a + 1 + n)) 1 0 = count-range o (a + 1) n in
    let all : count_by (λ k. eqb k o) (a ∷ range_with_len (a + 1) n) ≡ cond (eqb a o) 1 0 + count_by (λ k. eqb k o) (range_with_len (a + 1) n) = counted-cons (λ k. eqb k o) a (range_with_len (a + 1) n) in
    grind (arith, nat_tests, rest, all)
