-- Sums at rising places.
use Rattle.std.proofs.Common.{◌≡◌, ℕ, zero, suc, ◌+◌, ◌<◌, ◌≤◌, Bool, true, false, cond, ◌||◌, eqb, List, [], ◌∷◌, length, get_or, set, take, refl, sym, ap, ◌∙◌, inl, inr, arith, get_or-set_same, get_or-set_other}
use Rattle.std.proofs.lemmas.Bool.{eq-eqb, ne_eqb, cases_eq}
use Rattle.std.proofs.lemmas.List.{take_more}
use Rattle.mill_model.specs.Columns.{has, Rises}
use Rattle.mill_model.proofs.Judging.{has-append}

-- the numbers before one of a rising list aren't it
pub not_before : (low n : ℕ) (xs : List ℕ) (i d : ℕ) → Rises low n xs → i < length xs → (has (take i xs) (get_or xs i d) ≡ false) × (low ≤ get_or xs i d)
not_before low n [] i d r h = absurd (omega arith)
not_before low n (x ∷ xs) zero d r h = (refl, r.0)
not_before low n (x ∷ xs) (suc i) d r h =
    let rest = not_before (x + 1) n xs i d r.2 (omega arith) in
    (ap (λ (b : Bool). b || has (take i xs) (get_or xs i d)) (ne_eqb x (get_or xs i d) (λ e. omega (arith, rest.1))) ∙ rest.0, omega (arith, rest.1, r.0))

-- one place more
has_more : (xs : List ℕ) (i d j : ℕ) → i < length xs → has (take (i + 1) xs) j ≡ (has (take i xs) j || eqb (get_or xs i d) j)
has_more xs i d j h = ap (λ (l : List ℕ). has l j) (take_more xs i d h) ∙ has-append (take i xs) (get_or xs i d ∷ []) j ∙ ap (λ (b : Bool). has (take i xs) j || b) (only (eqb (get_or xs i d) j))
  where
    only : (b : Bool) → (b || false) ≡ b
    only true = refl
    only false = refl

pub added_more : (n : ℕ) (places : List ℕ) (i d amount value : ℕ) (first sums next : List ℕ) → Rises 0 n places → i < length places → length first ≡ n → length sums ≡ n → get_or places i d < n → value ≡ get_or sums (get_or places i d) 0 + amount → next ≡ set sums (get_or places i d) value
    → ((j : ℕ) → j < n → get_or sums j 0 ≡ get_or first j 0 + cond (has (take i places) j) amount 0) → (j : ℕ) → j < n → get_or next j 0 ≡ get_or first j 0 + cond (has (take (i + 1) places) j) amount 0
added_more n places i d amount value first sums next rises h a b inside v e each j l = elim (cases_eq j (get_or places i d)) [
  | inl q ↦
      let here : get_or next j 0 ≡ value = ap (λ (xs : List ℕ). get_or xs j 0) e ∙ ap (λ (z : ℕ). get_or (set sums (get_or places i d) value) z 0) q ∙ get_or-set_same sums (get_or places i d) value 0 (omega arith) in
      let old : has (take i places) j ≡ false = ap (has (take i places)) q ∙ (not_before 0 n places i d rises h).0 in
      let now : has (take (i + 1) places) j ≡ true = has_more places i d j h ∙ ap (λ (x : Bool). x || eqb (get_or places i d) j) old ∙ eq-eqb (get_or places i d) j (sym q) in
      omega (arith, here, v, ap (λ (z : ℕ). get_or sums z 0) q, each j l, ap (λ (x : Bool). cond x amount 0) old, ap (λ (x : Bool). cond x amount 0) now)
  | inr ne ↦
      let there : get_or next j 0 ≡ get_or sums j 0 = ap (λ (xs : List ℕ). get_or xs j 0) e ∙ get_or-set_other sums (get_or places i d) j value 0 ne in
      let same : has (take (i + 1) places) j ≡ has (take i places) j = has_more places i d j h ∙ ap (λ (x : Bool). has (take i places) j || x) (ne_eqb (get_or places i d) j (λ q. ne (sym q))) ∙ neither (has (take i places) j) in
      omega (arith, there, each j l, ap (λ (x : Bool). cond x amount 0) same)
]
  where
    neither : (b : Bool) → (b || false) ≡ b
    neither true = refl
    neither false = refl
