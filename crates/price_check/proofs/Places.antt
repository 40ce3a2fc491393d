-- Each question has a place of its own.
use Rattle.std.proofs.Common.{◌≡◌, ℕ, zero, suc, ◌+◌, ◌-◌, ◌*◌, ◌/◌, ◌%◌, ◌<◌, ◌≤◌, refl, ap, sym, ◌∙◌, inl, inr, arith}
use Rattle.std.proofs.Math.Arith.{digits_div, digits_mod, digits_lt}
use Rattle.std.proofs.lemmas.Bool.{cases_order}
use Rattle.mill_model.specs.declared.ask.Ask.{Ask}
use Rattle.mill_model.specs.declared.ask.Ask.TheVariants.{Pair, Put}
use Rattle.mill_model.specs.Decisions.{IsAskAmong}
use Rattle.mill_model.specs.Trees.{pair_count, asks_among}
use Rattle.price_check.specs.Marks.{place_of}

one_less : (n : ℕ) → suc n - 1 ≡ n
one_less n = omega arith

-- one order more, and it is in a pair with each of the others
doubled : (n : ℕ) → suc n * (suc n - 1) ≡ n * (n - 1) + n * 2
doubled zero = refl
doubled (suc n) = rw (one_less (suc n), one_less n) (omega arith)

pub pair_count-suc : (n : ℕ) → pair_count (suc n) ≡ pair_count n + n
pair_count-suc n = omega (arith, doubled n)

pub pair_count_le : (m n : ℕ) → m ≤ n → pair_count m ≤ pair_count n
pair_count_le m zero h = let e : m ≡ 0 = omega arith in rw e (omega arith)
pair_count_le m (suc n) h = elim (cases_order m (suc n)) [
  | inl same ↦ rw same (omega arith)
  | inr (inl less) ↦ omega (arith, pair_count-suc n, pair_count_le m n (omega arith))
  | inr (inr more) ↦ absurd (omega arith)
]

-- the places of pairs with a greater order lie behind
before : (i j l : ℕ) → i < j → j < l → pair_count j + i < pair_count l
before i j l h le = omega (arith, pair_count-suc j, pair_count_le (suc j) l (omega arith))

pub place_of-lt : (n s : ℕ) (ask : Ask) → IsAskAmong n s ask → place_of n s ask < asks_among n s
place_of-lt n s (Pair i j) h = omega (arith, before i j n h.0 h.1)
place_of-lt n s (Put o t) h = omega (arith, digits_lt {q = o} {m = n} {r = t} {c = s} h.0 h.1)

same_pair : (i j k l : ℕ) → i < j → k < l → pair_count j + i ≡ pair_count l + k → (i ≡ k) × (j ≡ l)
same_pair i j k l h g e = elim (cases_order j l) [
  | inl same ↦ (omega (arith, ap pair_count same), same)
  | inr (inl less) ↦ absurd (omega (arith, before i j l h less))
  | inr (inr more) ↦ absurd (omega (arith, before k l j g more))
]

pub place_of-injective : (n s : ℕ) (a b : Ask) → IsAskAmong n s a → IsAskAmong n s b → place_of n s a ≡ place_of n s b → a ≡ b
place_of-injective n s (Pair i j) (Pair k l) p q e =
    let both : (i ≡ k) × (j ≡ l) = same_pair i j k l p.0 q.0 e in
    let first : i ≡ k = both.0 in
    let second : j ≡ l = both.1 in
    cc
place_of-injective n s (Pair i j) (Put o t) p q e = absurd (omega (arith, before i j n p.0 p.1))
place_of-injective n s (Put o t) (Pair i j) p q e = absurd (omega (arith, before i j n q.0 q.1))
place_of-injective n s (Put o t) (Put u v) p q e =
    let same : o * s + t ≡ u * s + v = omega arith in
    let first : o ≡ u = sym (digits_div o p.1) ∙ ap (λ m. m / s) same ∙ digits_div u q.1 in
    let second : t ≡ v = sym (digits_mod o p.1) ∙ ap (λ m. m % s) same ∙ digits_mod u q.1 in
    cc
