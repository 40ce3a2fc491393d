-- The numbers below one more.
use Rattle.std.proofs.Common.{◌≡◌, ℕ, zero, suc, ◌+◌, ◌<◌, List, [], ◌∷◌, ◌++◌, length, get_or, map, refl, ap, ◌∙◌, arith}
use Rattle.std.proofs.lemmas.List.{map_push}
use Rattle.std.proofs.lemmas.List.Sums.{fold_push}
use Rattle.std.specs.List.{range_with_len, fold}

pub range_more : (a n : ℕ) → range_with_len a (n + 1) ≡ range_with_len a n ++ (a + n) ∷ []
range_more a zero = ap (λ (k : ℕ). k ∷ []) (omega arith)
range_more a (suc n) =
    let step : range_with_len (a + 1) (n + 1) ≡ range_with_len (a + 1) n ++ (a + 1 + n) ∷ [] = range_more (a + 1) n in
    let one : suc n + 1 ≡ suc (n + 1) = omega arith in
    let last : a + 1 + n ≡ a + suc n = omega arith in
    rw one (ap (λ (ks : List ℕ). a ∷ ks) (step ∙ ap (λ (k : ℕ). range_with_len (a + 1) n ++ k ∷ []) last))

pub map_range_more : {X : Type 0} (f : ℕ → X) (n : ℕ) → map f (range_with_len 0 (n + 1)) ≡ map f (range_with_len 0 n) ++ f n ∷ []
map_range_more f n =
    let last : 0 + n ≡ n = omega arith in
    ap (map f) (range_more 0 n) ∙ map_push f (range_with_len 0 n) (0 + n) ∙ ap (λ k. map f (range_with_len 0 n) ++ f k ∷ []) last

pub fold_range_more : {X : Type 0} (f : X → ℕ → X) (a : X) (n : ℕ) → fold f a (range_with_len 0 (n + 1)) ≡ f (fold f a (range_with_len 0 n)) n
fold_range_more f a n =
    let last : 0 + n ≡ n = omega arith in
    ap (fold f a) (range_more 0 n) ∙ fold_push f a (range_with_len 0 n) (0 + n) ∙ ap (f (fold f a (range_with_len 0 n))) last

pub length-range : (a n : ℕ) → length (range_with_len a n) ≡ n
length-range a zero = refl
length-range a (suc n) = ap suc (length-range (a + 1) n)

pub get_or-range : (a n k d : ℕ) → k < n → get_or (range_with_len a n) k d ≡ a + k
get_or-range a zero k d h = absurd (omega arith)
get_or-range a (suc n) zero d h = omega arith
get_or-range a (suc n) (suc k) d h = get_or-range (a + 1) n k d (omega arith) ∙ omega arith
