-- A desk of three files.
use Rattle.std.proofs.Common.{◌≡◌, ◌≢◌, ℕ, zero, suc, List, [], ◌∷◌, length, map, All, ◌≤◌, codes, get_or, sym, ap, subst, ◌∙◌, arith}
use Rattle.std.specs.List.{AllPairs}
use Rattle.std.proofs.lemmas.List.{get_or-map, length-map}

abbrev entries : List ℕ → List ℕ → List ℕ → List (List ℕ × List ℕ)
entries orders cert yard = (codes "orders", orders) ∷ (codes "cert", cert) ∷ (codes "yard", yard) ∷ []

pub three_names : (names : List (List ℕ)) → names ≡ codes "orders" ∷ codes "cert" ∷ codes "yard" ∷ [] → AllPairs (λ a b. a ≢ b) names
three_names names is = subst (λ (xs : List (List ℕ)). AllPairs (λ a b. a ≢ b) xs) (sym is) three
  where
    three : AllPairs (λ a b. a ≢ b) (codes "orders" ∷ codes "cert" ∷ codes "yard" ∷ [])
    three zero zero d below within e = absurd (omega arith)
    three zero (suc zero) d below within e = cc
    three zero (suc (suc zero)) d below within e = cc
    three zero (suc (suc (suc j))) d below within e = absurd (omega arith)
    three (suc zero) zero d below within e = absurd (omega arith)
    three (suc zero) (suc zero) d below within e = absurd (omega arith)
    three (suc zero) (suc (suc zero)) d below within e = other_first (ap (λ (name : List ℕ). get_or name 0 0) e)
      where
        other_first : ◌≡◌ {A = ℕ} 99 121 → ⊥
        other_first q = omega (arith, q)
    three (suc zero) (suc (suc (suc j))) d below within e = absurd (omega arith)
    three (suc (suc i)) j d below within e = absurd (omega arith)

entries_fit : (orders cert yard : List ℕ) (room : ℕ) → length orders ≤ room → length cert ≤ room → length yard ≤ room → All (λ file. length file.1 ≤ room) (entries orders cert yard)
entries_fit orders cert yard room a b c zero d h = a
entries_fit orders cert yard room a b c (suc zero) d h = b
entries_fit orders cert yard room a b c (suc (suc zero)) d h = c
entries_fit orders cert yard room a b c (suc (suc (suc k))) d h = absurd (omega arith)

-- no file is longer than the room
pub files_fit : {X : Type 0} (seen : X → List ℕ × List ℕ) (files : List X) (orders cert yard : List ℕ) (room : ℕ) → map seen files ≡ entries orders cert yard
    → length orders ≤ room → length cert ≤ room → length yard ≤ room → All (λ file. length (seen file).1 ≤ room) files
files_fit seen files orders cert yard room is a b c k d h =
    let all : All (λ file. length file.1 ≤ room) (map seen files) = subst (λ (es : List (List ℕ × List ℕ)). All (λ file. length file.1 ≤ room) es) (sym is) (entries_fit orders cert yard room a b c) in
    subst (λ (file : List ℕ × List ℕ). length file.1 ≤ room) (get_or-map seen files k d (seen d) h) (all k (seen d) (omega (arith, h, length-map files seen)))
