-- Words that are taken off the front of a list, two at once.
use Rattle.std.proofs.Common.{◌≡◌, ℕ, ◌-◌, ◌≤◌, List, [], ◌∷◌, length, map, take, drop, get_or, sym, ap, ◌∙◌, arith}
use Rattle.std.proofs.lemmas.List.{take_all}

-- a list begins with its first two, and then has the others
pub two_first : {A : Type 0} (f : A → List ℕ) (xs : List A) (a b : A) → 2 ≤ length xs → a ≡ get_or xs 0 a → b ≡ get_or xs 1 b
    → map f xs ≡ f a ∷ (f b ∷ map f (take (length xs - 2) (drop 2 xs)))
two_first f [] a b some p q = absurd (omega (arith, some))
two_first f (x ∷ []) a b some p q = absurd (omega (arith, some))
two_first f (x ∷ y ∷ zs) a b some p q =
    ap (λ u. f u ∷ (f y ∷ map f zs)) (sym p)
    ∙ ap (λ u. f a ∷ (f u ∷ map f zs)) (sym q)
    ∙ ap (λ rest. f a ∷ (f b ∷ map f rest)) (sym (take_all (length (x ∷ y ∷ zs) - 2) zs (omega arith)))
