-- The different colours of a list, as they are seen one after another.
use Rattle.std.proofs.Common.{◌≡◌, ℕ, suc, Bool, true, false, cond, ◌||◌, eqb, List, [], ◌∷◌, ◌++◌, length, refl, sym, ap, ◌∙◌, inl, inr, arith, length-append, length-take, append-nil, map, take, drop, get_or, ◌+◌, ◌<◌, ◌≤◌}
use Rattle.std.proofs.lemmas.Bool.{cases_Bool, cond-false, eqb-true, eq-eqb, ne_eqb}
use Rattle.std.proofs.lemmas.List.{take_more, take-append-drop, map-append, map_more}
use Rattle.mill_model.specs.Mill.{Mill}
use Rattle.mill_model.specs.Columns.{has, different, order_at, colours_of}
use Rattle.mill_model.specs.Plans.{places_of}
use Rattle.mill_model.specs.ColourSet.{AreColours}
use Rattle.mill_model.proofs.Judging.{has-append, different-push, different-append_le, places_of-push, places_of-append}

pub AreColours-push : (colours all : List ℕ) (c : ℕ) → AreColours colours all → AreColours (cond (has colours c) colours (colours ++ c ∷ [])) (all ++ c ∷ [])
AreColours-push colours all c are = elim (cases_Bool (has colours c)) [
  | inl old ↦ rw old (record { same = λ x. there old x; count = are.count ∙ sym (rw (different-push all c, sym (are.same c) ∙ old) refl) })
  | inr fresh ↦ rw fresh (record { same = λ x. rw (has-append colours (c ∷ []) x, has-append all (c ∷ []) x) (ap (λ b. b || (eqb c x || false)) (are.same x)); count = length-append colours (c ∷ []) ∙ omega (arith, are.count, counts fresh) })
]
  where
    there : has colours c ≡ true → (x : ℕ) → has colours x ≡ has (all ++ c ∷ []) x
    there old x = rw (has-append all (c ∷ []) x) (elim (cases_Bool (eqb c x)) [
      | inl e ↦ rw e (ap (has colours) (sym (eqb-true c x e)) ∙ old ∙ sym (or_true (has all x)))
      | inr e ↦ rw e (are.same x ∙ sym (or_false (has all x)))
    ])
      where
        or_true : (b : Bool) → (b || (true || false)) ≡ true
        or_true true = refl
        or_true false = refl

        or_false : (b : Bool) → (b || (false || false)) ≡ b
        or_false true = refl
        or_false false = refl

    counts : has colours c ≡ false → different (all ++ c ∷ []) ≡ suc (different all)
    counts fresh = rw (different-push all c, sym (are.same c) ∙ fresh) refl

-- ---- the colours on one slab, order by order

-- the colours of the orders on slab k among the first so many
abbrev pub colours_to : Mill → ℕ → List ℕ → ℕ → List ℕ
colours_to m k place o = map (λ (x : ℕ). (order_at m x).colour) (places_of k 0 (take o place))

pub places_more : (k : ℕ) (place : List ℕ) (o : ℕ) → o < length place → places_of k 0 (take (o + 1) place) ≡ places_of k 0 (take o place) ++ cond (eqb (get_or place o 0) k) (o ∷ []) []
places_more k place o h =
    ap (places_of k 0) (take_more place o 0 h)
    ∙ places_of-push k 0 (take o place) (get_or place o 0)
    ∙ ap (λ n. places_of k 0 (take o place) ++ cond (eqb (get_or place o 0) k) (n ∷ []) []) (omega (arith, length-take o place))

pub colours_with : (m : Mill) (k : ℕ) (place : List ℕ) (o : ℕ) → o < length place → get_or place o 0 ≡ k → colours_to m k place (o + 1) ≡ colours_to m k place o ++ (order_at m o).colour ∷ []
colours_with m k place o h e =
    ap (map (λ (x : ℕ). (order_at m x).colour)) (places_more k place o h ∙ ap (λ (b : Bool). places_of k 0 (take o place) ++ cond b (o ∷ []) []) (eq-eqb (get_or place o 0) k e))
    ∙ map-append (λ (x : ℕ). (order_at m x).colour) (places_of k 0 (take o place)) (o ∷ [])

pub colours_without : (m : Mill) (k : ℕ) (place : List ℕ) (o : ℕ) → o < length place → (get_or place o 0 ≡ k → ⊥) → colours_to m k place (o + 1) ≡ colours_to m k place o
colours_without m k place o h e =
    ap (map (λ (x : ℕ). (order_at m x).colour)) (places_more k place o h ∙ ap (λ (b : Bool). places_of k 0 (take o place) ++ cond b (o ∷ []) []) (ne_eqb (get_or place o 0) k e) ∙ append-nil (places_of k 0 (take o place)))

-- one colour more than so many on the slab
pub one_more_colour : (m : Mill) (k : ℕ) (place : List ℕ) (o : ℕ) (colours : List ℕ) (limit : ℕ) → AreColours colours (colours_to m k place o) → o < length place → get_or place o 0 ≡ k → has colours (order_at m o).colour ≡ false → limit ≤ length colours
    → limit < colours_of m (places_of k 0 place)
one_more_colour m k place o colours limit are h e fresh all_taken =
    let all : map (λ (x : ℕ). (order_at m x).colour) (places_of k 0 place) ≡ colours_to m k place (o + 1) ++ map (λ (x : ℕ). (order_at m x).colour) (places_of k (0 + length (take (o + 1) place)) (drop (o + 1) place)) =
    ap (λ xs. map (λ (x : ℕ). (order_at m x).colour) (places_of k 0 xs)) (sym (take-append-drop (o + 1) place))
    ∙ ap (map (λ (x : ℕ). (order_at m x).colour)) (places_of-append k 0 (take (o + 1) place) (drop (o + 1) place))
    ∙ map-append (λ (x : ℕ). (order_at m x).colour) (places_of k 0 (take (o + 1) place)) (places_of k (0 + length (take (o + 1) place)) (drop (o + 1) place)) in
    let more : different (colours_to m k place (o + 1)) ≡ suc (different (colours_to m k place o)) =
    ap different (colours_with m k place o h e) ∙ different-push (colours_to m k place o) (order_at m o).colour ∙ ap (λ (b : Bool). cond b (different (colours_to m k place o)) (suc (different (colours_to m k place o)))) (sym (are.same (order_at m o).colour) ∙ fresh) in
    omega (arith, ap different all, more, are.count, different-append_le (colours_to m k place (o + 1)) (map (λ (x : ℕ). (order_at m x).colour) (places_of k (0 + length (take (o + 1) place)) (drop (o + 1) place))))

-- ---- the colours of a list of orders

-- one colour more than so many in a list
pub too_many_listed : (f : ℕ → ℕ) (xs colours : List ℕ) (i limit : ℕ) → i < length xs → AreColours colours (map f (take i xs)) → has colours (f (get_or xs i 0)) ≡ false → limit ≤ length colours → limit < different (map f xs)
too_many_listed f xs colours i limit h are fresh full =
    let part : map f xs ≡ map f (take (i + 1) xs) ++ map f (drop (i + 1) xs) = ap (λ ys. map f ys) (sym (take-append-drop (i + 1) xs)) ∙ map-append f (take (i + 1) xs) (drop (i + 1) xs) in
    let more : map f (take (i + 1) xs) ≡ map f (take i xs) ++ f (get_or xs i 0) ∷ [] = map_more f xs i 0 h in
    let count : different (map f (take i xs) ++ f (get_or xs i 0) ∷ []) ≡ different (map f (take i xs)) + 1 =
    different-push (map f (take i xs)) (f (get_or xs i 0)) ∙ cond-false (has (map f (take i xs)) (f (get_or xs i 0))) (different (map f (take i xs))) (suc (different (map f (take i xs)))) (sym (are.same (f (get_or xs i 0))) ∙ fresh) ∙ omega arith in
    omega (arith, ap different part, ap different more, count, are.count, different-append_le (map f (take (i + 1) xs)) (map f (drop (i + 1) xs)))
