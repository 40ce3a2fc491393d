-- Counting the numbers that pass a test.
use Rattle.std.proofs.Common.{◌≡◌, ℕ, zero, suc, ◌+◌, ◌≤◌, Bool, true, false, cond, ap, arith}
use Rattle.slab_closure.specs.Cells.{is_same}
use Rattle.slab_closure.specs.Relations.{Table}
use Rattle.slab_closure.specs.Sizes.{count_from, size_in}

abbrev pub one : Bool → ℕ
one b = cond b 1 0

pub one_at_most : (b : Bool) → one b ≤ 1
one_at_most true = omega arith
one_at_most false = omega arith

pub count_from_cons : (test : ℕ → Bool) (low k : ℕ) → count_from test low (k + 1) ≡ one (test low) + count_from test (low + 1) k
count_from_cons test low k = let same : k + 1 ≡ suc k = omega arith in ap (count_from test low) same

pub count_from_few : (test : ℕ → Bool) (low k : ℕ) → count_from test low k ≤ k
count_from_few test low zero = omega arith
count_from_few test low (suc k) = omega (arith, one_at_most (test low), count_from_few test (low + 1) k)

-- one number more at the end
pub count_from_more : (test : ℕ → Bool) (low k : ℕ) → count_from test low (k + 1) ≡ count_from test low k + one (test (low + k))
count_from_more test low zero =
    let same : one (test (low + 0)) ≡ one (test low) = ap (λ n. one (test n)) (omega arith) in
    let first : count_from test low (0 + 1) ≡ one (test low) + count_from test (low + 1) 0 = count_from_cons test low 0 in
    omega (arith, same, first)
count_from_more test low (suc k) =
    let shifted : one (test (low + 1 + k)) ≡ one (test (low + suc k)) = ap (λ n. one (test n)) (omega arith) in
    let first : count_from test low (suc k + 1) ≡ one (test low) + count_from test (low + 1) (suc k) = count_from_cons test low (suc k) in
    let later : suc k ≡ k + 1 = omega arith in
    let again : count_from test (low + 1) (suc k) ≡ count_from test (low + 1) (k + 1) = ap (count_from test (low + 1)) later in
    omega (arith, first, again, count_from_more test (low + 1) k, shifted)

pub size_more : (at : Table) (x y : ℕ) → size_in (y + 1) at x ≡ size_in y at x + one (is_same (at x y))
size_more at x y =
    let same : one (is_same (at x (0 + y))) ≡ one (is_same (at x y)) = ap (λ n. one (is_same (at x n))) (omega arith) in
    omega (arith, same, count_from_more (λ (z : ℕ). is_same (at x z)) 0 y)
