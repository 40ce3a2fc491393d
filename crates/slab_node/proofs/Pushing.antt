-- A list with one element more.
use Rattle.std.proofs.Common.{◌≡◌, ℕ, ◌+◌, ◌<◌, List, [], ◌∷◌, ◌++◌, length, get_or, sym, subst, ◌∙◌, ap, inl, inr, arith}
use Rattle.std.proofs.lemmas.Bool.{cases_eq}
use Rattle.std.proofs.Math.ListN.{get_or-append}
use Rattle.std.proofs.Math.Seq.{get_or-append_seam}

-- what holds of each element, by its place, and of the one more
pub each_push : {X : Type 0} (P : ℕ → X → Type 0) (xs : List X) (x d : X) (n : ℕ) → length xs ≡ n → ((i : ℕ) → i < n → P i (get_or xs i d)) → P n x → (i : ℕ) → i < n + 1 → P i (get_or (xs ++ x ∷ []) i d)
each_push P xs x d n size each here i h = elim (cases_eq i n) [
  | inl e ↦ subst (λ (j : ℕ). P j (get_or (xs ++ x ∷ []) j d)) (sym e) (subst (P n) (sym (ap (λ (j : ℕ). get_or (xs ++ x ∷ []) j d) (sym size) ∙ get_or-append_seam xs x [] d)) here)
  | inr ne ↦ subst (P i) (sym (get_or-append xs (x ∷ []) d i (omega arith))) (each i (omega arith))
]

-- the same of two lists
pub both_push : {X Y : Type 0} (P : ℕ → X → Y → Type 0) (xs : List X) (ys : List Y) (x d : X) (y e : Y) (n : ℕ) → length xs ≡ n → length ys ≡ n → ((i : ℕ) → i < n → P i (get_or xs i d) (get_or ys i e)) → P n x y → (i : ℕ) → i < n + 1 → P i (get_or (xs ++ x ∷ []) i d) (get_or (ys ++ y ∷ []) i e)
both_push P xs ys x d y e n xs_size ys_size each here i h = elim (cases_eq i n) [
  | inl at ↦
      let last_x : x ≡ get_or (xs ++ x ∷ []) i d = sym (ap (λ (j : ℕ). get_or (xs ++ x ∷ []) j d) (at ∙ sym xs_size) ∙ get_or-append_seam xs x [] d) in
      let last_y : y ≡ get_or (ys ++ y ∷ []) i e = sym (ap (λ (j : ℕ). get_or (ys ++ y ∷ []) j e) (at ∙ sym ys_size) ∙ get_or-append_seam ys y [] e) in
      subst (P i (get_or (xs ++ x ∷ []) i d)) last_y (subst (λ z. P i z y) last_x (subst (λ (j : ℕ). P j x y) (sym at) here))
  | inr ne ↦ subst (P i (get_or (xs ++ x ∷ []) i d)) (sym (get_or-append ys (y ∷ []) e i (omega arith))) (subst (λ z. P i z (get_or ys i e)) (sym (get_or-append xs (x ∷ []) d i (omega arith))) (each i (omega arith)))
]
