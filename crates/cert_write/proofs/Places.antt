-- The orders on a slab, found place by place.
use Rattle.std.proofs.Common.{◌≡◌, ℕ, ◌+◌, ◌<◌, cond, eqb, true, false, List, [], ◌∷◌, ◌++◌, length, take, get_or, map, ap, ◌∙◌, append-nil, arith}
use Rattle.std.proofs.lemmas.List.{take_more, length-take}
use Rattle.mill_model.specs.Plans.{places_of}
use Rattle.mill_model.proofs.Judging.{places_of-push}
use Rattle.cert_view.specs.Text.{numbers_text}
use Rattle.cert_text.specs.Lines.{number}
use Rattle.cert_write.proofs.Lines.{orders_by_element}

-- one more place
places_of-more : (k i : ℕ) (place : List ℕ) → i < length place → places_of k 0 (take (i + 1) place) ≡ places_of k 0 (take i place) ++ cond (eqb (get_or place i 0) k) (i ∷ []) []
places_of-more k i place h =
    let count : 0 + length (take i place) ≡ i = omega (arith, length-take {A = ℕ}) in
    ap (places_of k 0) (take_more place i 0 h)
    ∙ places_of-push k 0 (take i place) (get_or place i 0)
    ∙ ap (λ (n : ℕ). places_of k 0 (take i place) ++ cond (eqb (get_or place i 0) k) (n ∷ []) []) count

-- it is on the slab
pub numbers-taken : (k i : ℕ) (place : List ℕ) → i < length place → eqb (get_or place i 0) k ≡ true
    → numbers_text (map number (places_of k 0 (take (i + 1) place))) ≡ numbers_text (map number (places_of k 0 (take i place))) ++ numbers_text (number i ∷ [])
numbers-taken k i place h is =
    ap (λ (orders : List ℕ). numbers_text (map number orders)) (places_of-more k i place h ∙ ap (λ b. places_of k 0 (take i place) ++ cond b (i ∷ []) []) is)
    ∙ orders_by_element (places_of k 0 (take i place)) (i ∷ [])

-- it isn't
pub numbers-passed : (k i : ℕ) (place : List ℕ) → i < length place → eqb (get_or place i 0) k ≡ false
    → numbers_text (map number (places_of k 0 (take (i + 1) place))) ≡ numbers_text (map number (places_of k 0 (take i place)))
numbers-passed k i place h is =
    ap (λ (orders : List ℕ). numbers_text (map number orders)) (places_of-more k i place h ∙ ap (λ b. places_of k 0 (take i place) ++ cond b (i ∷ []) []) is ∙ append-nil (places_of k 0 (take i place)))
