-- Too many colours.
use Rattle.std.proofs.Common.{◌≡◌, ℕ, suc, ◌+◌, ◌++◌, ◌∷◌, [], ◌<◌, ◌≤◌, false, cond, get_or, map, take, drop, List, sym, ap, ◌∙◌, length, arith}
use Rattle.std.proofs.lemmas.Bool.{cond-false}
use Rattle.std.proofs.lemmas.List.{map_more, map-append, take-append-drop}
use Rattle.mill_model.specs.Mill.{Mill}
use Rattle.mill_model.specs.ColourSet.{AreColours}
use Rattle.mill_model.specs.Columns.{has, different, order_at, colours_of}
use Rattle.mill_model.proofs.Judging.{different-push, different-append_le}

too_many_of : (f : ℕ → ℕ) (xs colours : List ℕ) (i limit : ℕ) → i < length xs → AreColours colours (map f (take i xs)) → has colours (f (get_or xs i 0)) ≡ false → limit ≤ length colours → limit < different (map f xs)
too_many_of f xs colours i limit h are fresh full =
    let part : map f xs ≡ map f (take (i + 1) xs) ++ map f (drop (i + 1) xs) = ap (λ ys. map f ys) (sym (take-append-drop (i + 1) xs)) ∙ map-append f (take (i + 1) xs) (drop (i + 1) xs) in
    let more : map f (take (i + 1) xs) ≡ map f (take i xs) ++ f (get_or xs i 0) ∷ [] = map_more f xs i 0 h in
    let count : different (map f (take i xs) ++ f (get_or xs i 0) ∷ []) ≡ different (map f (take i xs)) + 1 =
    different-push (map f (take i xs)) (f (get_or xs i 0)) ∙ cond-false (has (map f (take i xs)) (f (get_or xs i 0))) (different (map f (take i xs))) (suc (different (map f (take i xs)))) (sym (are.same (f (get_or xs i 0))) ∙ fresh) ∙ omega arith in
    omega (arith, ap different part, ap different more, count, are.count, different-append_le (map f (take (i + 1) xs)) (map f (drop (i + 1) xs)))

-- one colour more than the limit
pub too_many : (m : Mill) (orders colours : List ℕ) (i limit : ℕ) → i < length orders → AreColours colours (map (λ (o : ℕ). (order_at m o).colour) (take i orders)) → has colours (order_at m (get_or orders i 0)).colour ≡ false → limit ≤ length colours → limit < colours_of m orders
too_many m orders = too_many_of (λ (o : ℕ). (order_at m o).colour) orders
