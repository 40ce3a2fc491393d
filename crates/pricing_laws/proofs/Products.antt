-- A few times a number, and entries of a table, as they are computed.
use Rattle.std.proofs.Common.{◌≡◌, ℕ, ◌+◌, ◌*◌, ◌^◌, ◌<◌, ◌≤◌, ℤ, pos, ◌*ℤ◌, List, length, get_or, arith, to_z, of_z}
use Rattle.std.specs.Prelude.{unsigned_abs}
use Rattle.std.specs.Int.{w128}
use Rattle.std.proofs.lemmas.Int.{ints, unsigned_abs-mul}
use Rattle.std.proofs.lemmas.Nat.{mul-le}
use Rattle.pricing_laws.specs.Bounds.{AreSmall}

-- a few times a small number
pub few_small : (left : ℕ) (top : ℤ) → left ≤ 3 → unsigned_abs top ≤ 2 ^ 94 → unsigned_abs (pos left *ℤ top) ≤ 3 * 2 ^ 94
few_small left top few small = omega (arith, ints, unsigned_abs-mul (pos left) top, mul-le left (unsigned_abs top) 3 (2 ^ 94) few small)

-- the product as it was computed
pub product_back : (left : ℕ) (top x : ℤ) → left ≤ 3 → unsigned_abs top ≤ 2 ^ 94 → x ≡ pos left → to_z w128 (of_z w128 (to_z w128 (of_z w128 x) *ℤ to_z w128 (of_z w128 top))) ≡ pos left *ℤ top
product_back left top x few small e =
    let a : to_z w128 (of_z w128 x) ≡ pos left = omega (arith, ints) in
    let b : to_z w128 (of_z w128 top) ≡ top = omega (arith, ints) in
    rw (a, b) (omega (arith, ints, few_small left top few small))

-- an entry of a table
pub entry_small : (table : List ℤ) (k : ℕ) → AreSmall table → length table ≤ 2 ^ 24 → k < length table → unsigned_abs (get_or table k (pos 0)) ≤ 2 ^ 109
entry_small table k small narrow h = omega (arith, small k h)
