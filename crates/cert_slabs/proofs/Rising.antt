-- Elements of rising lists, and of lists that are written.
use Rattle.std.proofs.Common.{◌≡◌, ℕ, zero, suc, ◌+◌, ◌*◌, ◌-◌, ◌<◌, ◌≤◌, Bool, true, false, ◌||◌, eqb, cond, List, [], ◌∷◌, ◌++◌, length, get_or, take, drop, sum, refl, sym, ap, ◌∙◌, subst, arith}
use Rattle.std.specs.List.{AllByRecursion, list_any, sum_by}
use Rattle.std.proofs.Math.ListN.{set}
use Rattle.std.proofs.Math.Seq.{take-append_seam}
use Rattle.std.proofs.lemmas.List.Elements.{All-from_get_or}
use Rattle.std.proofs.lemmas.List.Sums.{sum_by-set, sum_by-le}
use Rattle.std.proofs.lemmas.List.Folds.{list_any_more}
use Rattle.mill_model.specs.Columns.{Rises, has}

pub rises_at : (low high : ℕ) (xs : List ℕ) (i : ℕ) → Rises low high xs → i < length xs → (low ≤ get_or xs i 0) × (get_or xs i 0 < high)
rises_at low high [] i r h = absurd (omega (arith, h))
rises_at low high (x ∷ xs) zero r h = (r.0, r.1)
rises_at low high (x ∷ xs) (suc i) r h = let e = rises_at (x + 1) high xs i r.2 (omega (arith, h)) in (omega (arith, e.0, r.0), e.1)

pub rises_few : (low high : ℕ) (xs : List ℕ) → Rises low high xs → low ≤ high → length xs + low ≤ high
rises_few low high [] r h = omega (arith, h)
rises_few low high (x ∷ xs) r h = omega (arith, r.0, rises_few (x + 1) high xs r.2 (omega (arith, r.1)))

pub all_at : (P : ℕ → Type 0) (xs : List ℕ) (i : ℕ) → AllByRecursion P xs → i < length xs → P (get_or xs i 0)
all_at P [] i a h = absurd (omega (arith, h))
all_at P (x ∷ xs) zero a h = a.0
all_at P (x ∷ xs) (suc i) a h = all_at P xs i a.1 (omega (arith, h))

pub all_from : (P : ℕ → Type 0) (xs : List ℕ) → ((i : ℕ) → i < length xs → P (get_or xs i 0)) → AllByRecursion P xs
all_from P [] f = tt
all_from P (x ∷ xs) f = (f 0 (omega arith), all_from P xs (λ i h. f (suc i) (omega (arith, h))))

-- a list that is written whole
pub whole_write : {A : Type 0} (n : ℕ) (xs ys : List A) → length xs ≡ n → take n (xs ++ drop (length xs) ys) ≡ xs
whole_write n xs ys e = subst (λ k. take k (xs ++ drop (length xs) ys) ≡ xs) e (take-append_seam xs (drop (length xs) ys))

or_eqb : (a b : Bool) → (a || b) ≡ true → a ≡ false → b ≡ true
or_eqb true b e f = cc
or_eqb false b e f = e

-- an order is not among those before it
pub new_at : (low high : ℕ) (xs : List ℕ) (i : ℕ) → Rises low high xs → i < length xs → has (take i xs) (get_or xs i 0) ≡ false
new_at low high [] i r h = absurd (omega (arith, h))
new_at low high (x ∷ xs) zero r h = refl
new_at low high (x ∷ xs) (suc i) r h = grind (arith, rises_at (x + 1) high xs i r.2 (omega (arith, h)), new_at (x + 1) high xs i r.2 (omega (arith, h)), other x (get_or xs i 0))
  where
    other : (a b : ℕ) → a + 1 ≤ b → eqb a b ≡ false
    other a b l = grind arith

-- an element in range doesn't depend on the default
pub get_in_range : {A : Type 0} (xs : List A) (i : ℕ) (d e : A) → i < length xs → get_or xs i d ≡ get_or xs i e
get_in_range [] i d e h = absurd (omega (arith, h))
get_in_range (x ∷ xs) zero d e h = refl
get_in_range (x ∷ xs) (suc i) d e h = get_in_range xs i d e (omega (arith, h))

-- the sum where one is raised
pub sum_raised : (xs : List ℕ) (i y : ℕ) → i < length xs → sum (set xs i (get_or xs i 0 + y)) ≡ sum xs + y
sum_raised xs i y h = omega (arith, sum_by-set (λ (x : ℕ). x) xs i (get_or xs i 0 + y) 0 h)

-- sums of small numbers
pub sum_small : (most : ℕ) (xs : List ℕ) → ((i : ℕ) → i < length xs → get_or xs i 0 ≤ most) → sum xs ≤ length xs * most
sum_small most xs f = sum_by-le (λ (x : ℕ). x) most xs (All-from_get_or (λ (x : ℕ). x ≤ most) xs 0 f)
