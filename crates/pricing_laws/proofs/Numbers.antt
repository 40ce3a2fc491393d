-- Numbers as they were computed, lists one number longer, and prices and their multiples.
use Rattle.std.proofs.Math.ListN.{get_or-append}
use Rattle.std.proofs.Common.{◌≡◌, FitsSigned, ◌*◌, ◌*ℤ◌, true, inl, inr, ℕ, ◌+◌, ◌^◌, ◌<◌, ◌≤◌, pos, ◌+ℤ◌, ◌≤ℤ◌, ℤ, List, [], ◌∷◌, ◌++◌, length, get_or, sym, subst, ap, ◌∙◌, arith, to_z, of_z}
use Rattle.std.specs.Prelude.{unsigned_abs, ◌-ℤ◌}
use Rattle.std.specs.Int.{w64, w128, int_max}
use lib.Signed.{le_z}
use Rattle.std.proofs.lemmas.Int.{ints, int_max_is, unsigned_abs-mul}
use Rattle.std.proofs.lemmas.Nat.{mul-le}
use Rattle.std.proofs.lemmas.Bool.{cases_eq}
use Rattle.std.proofs.Math.Seq.{get_or-append_seam}
use Rattle.mill_model.specs.Prices.{IsPrice}

pub sum_back : (x y a b : ℤ) → x ≡ a → y ≡ b → unsigned_abs a ≤ 2 ^ 118 → unsigned_abs b ≤ 2 ^ 118 → to_z w128 (of_z w128 (to_z w128 (of_z w128 x) +ℤ to_z w128 (of_z w128 y))) ≡ a +ℤ b
sum_back x y a b e f g h = rw (e, f) (omega (arith, ints))

-- the greater of two small numbers
pub max_small : (n : ℕ) (x y z : ℤ) → z ≡ int_max x y → unsigned_abs x ≤ n → unsigned_abs y ≤ n → unsigned_abs z ≤ n
max_small n x y z e h k = omega (arith, ints, e, int_max_is x y)

-- what holds of each number so far, and of one more
pub each_push : (P : ℕ → ℤ → Type 0) (xs ys : List ℤ) (x : ℤ) (n : ℕ) → ys ≡ xs ++ x ∷ [] → length xs ≡ n → ((k : ℕ) → k < n → P k (get_or xs k (pos 0))) → P n x → (k : ℕ) → k < n + 1 → P k (get_or ys k (pos 0))
each_push P xs ys x n pushed size before here k h = elim (cases_eq k n) [
  | inl e ↦ subst (λ (i : ℕ). P i (get_or ys i (pos 0))) (sym e) (subst (P n) (sym (ap (λ (us : List ℤ). get_or us n (pos 0)) pushed ∙ ap (λ i. get_or (xs ++ x ∷ []) i (pos 0)) (sym size) ∙ get_or-append_seam xs x [] (pos 0))) here)
  | inr n ↦ subst (P k) (sym (ap (λ (us : List ℤ). get_or us k (pos 0)) pushed ∙ get_or-append xs (x ∷ []) (pos 0) k (omega (arith, size)))) (before k (omega arith))
]

-- a comparison that held
pub le_true : (a b : ℤ) → le_z a b ≡ true → a ≤ℤ b
le_true a b e = grind (arith, ints)

-- ---- prices and multiples

pub price_small : (z : ℤ) → IsPrice z → unsigned_abs z ≤ 2 ^ 62
price_small z h = omega (arith, ints, h.0, h.1)

pub multiple_small : (each : ℤ) (amount most : ℕ) → IsPrice each → amount ≤ most → unsigned_abs (each *ℤ pos amount) ≤ 2 ^ 62 * most
multiple_small each amount most h le = omega (arith, unsigned_abs-mul each (pos amount), mul-le (unsigned_abs each) amount (2 ^ 62) most (price_small each h) le)

-- a price and a multiple of another, as they were computed
pub multiple_back : (price each : ℤ) (amount : ℕ) (x y z : ℤ) → IsPrice price → IsPrice each → amount ≤ 10000 → x ≡ to_z w64 (of_z w64 each) → y ≡ pos amount → z ≡ to_z w64 (of_z w64 price)
    → to_z w128 (of_z w128 (to_z w128 (of_z w128 z) +ℤ to_z w128 (of_z w128 (to_z w128 (of_z w128 x) *ℤ to_z w128 (of_z w128 y))))) ≡ price +ℤ each *ℤ pos amount
multiple_back price each amount x y z p q le e f g =
    let each_small : unsigned_abs each ≤ 2 ^ 62 = price_small each q in
    let own_small : unsigned_abs price ≤ 2 ^ 62 = price_small price p in
    let a : to_z w128 (of_z w128 x) ≡ each = omega (arith, ints) in
    let b : to_z w128 (of_z w128 y) ≡ pos amount = omega (arith, ints) in
    let d : to_z w128 (of_z w128 z) ≡ price = omega (arith, ints) in
    rw (a, b, d) (omega (arith, ints, multiple_small each amount 10000 q le))

pub multiple_bound : (price each : ℤ) (amount : ℕ) → IsPrice price → IsPrice each → amount ≤ 10000 → unsigned_abs (price +ℤ each *ℤ pos amount) ≤ 2 ^ 76
multiple_bound price each amount p q le = omega (arith, ints, multiple_small each amount 10000 q le, price_small price p)

-- a sum as it was computed
pub entry_back : (x y : ℤ) → unsigned_abs x ≤ 2 ^ 84 → unsigned_abs y ≤ 2 ^ 76 → to_z w128 (of_z w128 (to_z w128 (of_z w128 x) +ℤ to_z w128 (of_z w128 y))) ≡ x +ℤ y
entry_back x y a b = omega (arith, ints)

-- what is left of a number without a multiple of a price, as it was computed
pub less_multiple_back : (gain each : ℤ) (amount : ℕ) (x y z : ℤ) → unsigned_abs gain ≤ 2 ^ 84 → IsPrice each → amount ≤ 250 * 10000 → x ≡ to_z w64 (of_z w64 each) → y ≡ pos amount → z ≡ gain
    → to_z w128 (of_z w128 (to_z w128 (of_z w128 z) -ℤ to_z w128 (of_z w128 (to_z w128 (of_z w128 x) *ℤ to_z w128 (of_z w128 y))))) ≡ gain -ℤ each *ℤ pos amount
less_multiple_back gain each amount x y z small p le e f g =
    let each_small : unsigned_abs each ≤ 2 ^ 62 = price_small each p in
    let a : to_z w128 (of_z w128 x) ≡ each = omega (arith, ints) in
    let b : to_z w128 (of_z w128 y) ≡ pos amount = omega (arith, ints) in
    let d : to_z w128 (of_z w128 z) ≡ gain = omega (arith, ints) in
    rw (a, b, d) (omega (arith, ints, multiple_small each amount (250 * 10000) p le))

pub less_multiple_bound : (gain each : ℤ) (amount : ℕ) → unsigned_abs gain ≤ 2 ^ 84 → IsPrice each → amount ≤ 250 * 10000 → unsigned_abs (gain -ℤ each *ℤ pos amount) ≤ 2 ^ 86
less_multiple_bound gain each amount small p le = omega (arith, ints, multiple_small each amount (250 * 10000) p le)

-- such a number is computed without leaving its type
pub less_multiple_fits : (gain each : ℤ) (amount : ℕ) (x y z : ℤ) → unsigned_abs gain ≤ 2 ^ 84 → IsPrice each → amount ≤ 250 * 10000 → x ≡ to_z w64 (of_z w64 each) → y ≡ pos amount → z ≡ gain
    → FitsSigned w128 (to_z w128 (of_z w128 z) -ℤ to_z w128 (of_z w128 (to_z w128 (of_z w128 x) *ℤ to_z w128 (of_z w128 y))))
less_multiple_fits gain each amount x y z small p le e f g =
    let each_small : unsigned_abs each ≤ 2 ^ 62 = price_small each p in
    let a : to_z w128 (of_z w128 x) ≡ each = omega (arith, ints) in
    let b : to_z w128 (of_z w128 y) ≡ pos amount = omega (arith, ints) in
    let d : to_z w128 (of_z w128 z) ≡ gain = omega (arith, ints) in
    rw (a, b, d) (omega (arith, ints, multiple_small each amount (250 * 10000) p le))
