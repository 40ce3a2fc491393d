-- Parts of a list, and a list that is gone through from its last number to its first.
use Rattle.std.specs.Prelude.{◌≡◌, ◌⊎◌, ℕ, zero, suc, false, List, [], ◌∷◌, slice_index_or}
use Rattle.std.specs.Coded.{Coded-set, coded_bool, ×_prop, Unit-prop}
use Rattle.mill_model.specs.Columns.{has}

-- no number stands twice
abbrev pub AreDistinct : List ℕ → Type 0
AreDistinct [] = Unit {0}
AreDistinct (x ∷ xs) = (has xs x ≡ false) × AreDistinct xs

-- which has one proof at most
pub AreDistinct-prop : (xs : List ℕ) → IsProp (AreDistinct xs)
AreDistinct-prop [] = Unit-prop
AreDistinct-prop (x ∷ xs) = ×_prop (Coded-set coded_bool (has xs x) false) (AreDistinct-prop xs)

-- some numbers of a list, in its order
abbrev pub IsPart : List ℕ → List ℕ → Type 0
IsPart xs [] = xs ≡ []
IsPart xs (y ∷ ys) = IsPart xs ys ⊎ ((zs : List ℕ) × (xs ≡ y ∷ zs) × IsPart zs ys)

-- the first so many numbers, from the last of them to the first
abbrev pub left_of : List ℕ → ℕ → List ℕ
left_of queue zero = []
left_of queue (suc k) = slice_index_or queue k 0 ∷ left_of queue k
