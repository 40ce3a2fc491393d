-- The first broken rule among rules in their order.
use Rattle.std.proofs.Common.{◌≡◌, ℕ, zero, suc, ◌+◌, ◌<◌, ◌≤◌, Bool, true, false, cond, List, ◌∷◌, ◌++◌, find, flat_map, refl, sym, ap, ◌∙◌, inl, inr, arith, Option, Some, None}
use Rattle.std.specs.List.{range_with_len}
use Rattle.std.specs.Option.{option_or}
use Rattle.std.proofs.lemmas.Bool.{cases_Bool, cases_eq}
use Rattle.std.proofs.lemmas.List.Folds.{find-append}
use Rattle.std.proofs.lemmas.List.Concat.{flat_map-cons}

pub find-none_append : {X : Type 0} (p : X → Bool) (xs ys : List X) → find p xs ≡ None → find p (xs ++ ys) ≡ find p ys
find-none_append p xs ys e = find-append p xs ys ∙ ap (λ o. option_or o (find p ys)) e

pub find-some_append : {X : Type 0} (p : X → Bool) (xs ys : List X) (x : X) → find p xs ≡ Some x → find p (xs ++ ys) ≡ Some x
find-some_append p xs ys x e = find-append p xs ys ∙ ap (λ o. option_or o (find p ys)) e

-- none passes where none of each part does
pub find-flat_map_none : {X : Type 0} (p : X → Bool) (f : ℕ → List X) (a n : ℕ) → ((j : ℕ) → a ≤ j → j < a + n → find p (f j) ≡ None) → find p (flat_map f (range_with_len a n)) ≡ None
find-flat_map_none p f a zero each = refl
find-flat_map_none p f a (suc n) each =
    ap (find p) (flat_map-cons f a (range_with_len (a + 1) n))
    ∙ find-none_append p (f a) (flat_map f (range_with_len (a + 1) n)) (each a (omega arith) (omega arith))
    ∙ find-flat_map_none p f (a + 1) n (λ j l u. each j (omega arith) (omega arith))

-- the first of a part passes where none of the parts before does
pub find-flat_map_some : {X : Type 0} (p : X → Bool) (f : ℕ → List X) (a n k : ℕ) (x : X) → a ≤ k → k < a + n → ((j : ℕ) → a ≤ j → j < k → find p (f j) ≡ None) → find p (f k) ≡ Some x → find p (flat_map f (range_with_len a n)) ≡ Some x
find-flat_map_some p f a zero k x l u each e = absurd (omega arith)
find-flat_map_some p f a (suc n) k x l u each e =
    ap (find p) (flat_map-cons f a (range_with_len (a + 1) n)) ∙ elim (cases_eq a k) [
      | inl same ↦ find-some_append p (f a) (flat_map f (range_with_len (a + 1) n)) x (ap (λ j. find p (f j)) same ∙ e)
      | inr less ↦ find-none_append p (f a) (flat_map f (range_with_len (a + 1) n)) (each a (omega arith) (omega arith)) ∙ find-flat_map_some p f (a + 1) n k x (omega arith) (omega arith) (λ j b c. each j (omega arith) c) e
    ]

-- where none passes, none of the parts has one that does
pub find-none_parts : {X : Type 0} (p : X → Bool) (xs ys : List X) → find p (xs ++ ys) ≡ None → (find p xs ≡ None) × (find p ys ≡ None)
find-none_parts {X = X} p xs ys e = by_first (find p xs) refl
  where
    by_first : (o : Option X) → find p xs ≡ o → (find p xs ≡ None) × (find p ys ≡ None)
    by_first None q = (q, sym (find-none_append p xs ys q) ∙ e)
    by_first (Some x) q = absurd (apart (sym (find-some_append p xs ys x q) ∙ e))
      where
        apart : Some x ≡ None → ⊥
        apart r = cc

pub find-none_each : {X : Type 0} (p : X → Bool) (f : ℕ → List X) (a n : ℕ) → find p (flat_map f (range_with_len a n)) ≡ None → (j : ℕ) → a ≤ j → j < a + n → find p (f j) ≡ None
find-none_each p f a zero e j l u = absurd (omega arith)
find-none_each p f a (suc n) e j l u =
    let parts : (find p (f a) ≡ None) × (find p (flat_map f (range_with_len (a + 1) n)) ≡ None) = find-none_parts p (f a) (flat_map f (range_with_len (a + 1) n)) (ap (find p) (sym (flat_map-cons f a (range_with_len (a + 1) n))) ∙ e) in
    elim (cases_eq a j) [
      | inl same ↦ ap (λ k. find p (f k)) (sym same) ∙ parts.0
      | inr less ↦ find-none_each p f (a + 1) n parts.1 j (omega arith) (omega arith)
    ]

-- the first of a list passes, or doesn't
pub find-cons_no : {X : Type 0} (p : X → Bool) (x : X) (xs : List X) → p x ≡ false → find p (x ∷ xs) ≡ find p xs
find-cons_no p x xs e = ap (λ b. cond b (Some x) (find p xs)) e

pub find-cons_yes : {X : Type 0} (p : X → Bool) (x : X) (xs : List X) → p x ≡ true → find p (x ∷ xs) ≡ Some x
find-cons_yes p x xs e = ap (λ b. cond b (Some x) (find p xs)) e

pub find-cons_none : {X : Type 0} (p : X → Bool) (x : X) (xs : List X) → find p (x ∷ xs) ≡ None → (p x ≡ false) × (find p xs ≡ None)
find-cons_none {X = X} p x xs e = elim (cases_Bool (p x)) [
  | inl yes_it_does ↦ absurd (apart (sym (find-cons_yes p x xs yes_it_does) ∙ e))
  | inr it_does_not ↦ (it_does_not, sym (find-cons_no p x xs it_does_not) ∙ e)
]
  where
    apart : Some x ≡ None → ⊥
    apart r = cc
