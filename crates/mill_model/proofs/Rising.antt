-- Lists of rising numbers.
use Rattle.std.proofs.Common.{◌≡◌, ℕ, ◌+◌, ◌<◌, false, ◌||◌, eqb, List, [], ◌∷◌, refl, sym, ap, ap₂, ◌∙◌, subst, inl, inr, arith}
use Rattle.std.proofs.lemmas.Bool.{eq-eqb, ne_eqb, cases_eq, cases_order, or_left, or_from, both_ways}
use Rattle.mill_model.specs.Columns.{Rises, has}
use Rattle.mill_model.proofs.Duality.{not_has}

-- rising lists with the same members are one
pub same_members : (low n : ℕ) (xs ys : List ℕ) → Rises low n xs → Rises low n ys → ((i : ℕ) → i < n → has xs i ≡ has ys i) → xs ≡ ys
same_members low n [] [] r s h = refl
same_members low n [] (y ∷ ys) r s h = absurd (both_ways (has [] y) refl (h y s.1 ∙ or_left (eqb y y) (has ys y) (eq-eqb y y refl)))
same_members low n (x ∷ xs) [] r s h = absurd (both_ways (has [] x) refl (sym (h x r.1) ∙ or_left (eqb x x) (has xs x) (eq-eqb x x refl)))
same_members low n (x ∷ xs) (y ∷ ys) r s h = ap₂ ◌∷◌ heads (same_members (x + 1) n xs ys r.2 (subst (λ z. Rises (z + 1) n ys) (sym heads) s.2) rest)
  where
    not_below : (z w : ℕ) (zs : List ℕ) → Rises (z + 1) n zs → w < z → has (z ∷ zs) w ≡ false
    not_below z w zs t l = or_from (eqb z w) (has zs w) (ne_eqb z w (λ q. omega arith)) (not_has (z + 1) n zs w t (omega arith))

    heads : x ≡ y
    heads = elim (cases_order x y) [
      | inl e ↦ e
      | inr o ↦ elim o [
        | inl l ↦ absurd (both_ways (has (y ∷ ys) x) (not_below y x ys s.2 l) (sym (h x r.1) ∙ or_left (eqb x x) (has xs x) (eq-eqb x x refl)))
        | inr l ↦ absurd (both_ways (has (x ∷ xs) y) (not_below x y xs r.2 l) (h y s.1 ∙ or_left (eqb y y) (has ys y) (eq-eqb y y refl)))
      ]
    ]

    drop_first : (z i : ℕ) (zs : List ℕ) → (z ≡ i → ⊥) → has (z ∷ zs) i ≡ has zs i
    drop_first z i zs ne = ap (λ b. b || has zs i) (ne_eqb z i ne)

    rest : (i : ℕ) → i < n → has xs i ≡ has ys i
    rest i l = elim (cases_eq x i) [
      | inl e ↦ not_has (x + 1) n xs i r.2 (omega arith) ∙ sym (not_has (y + 1) n ys i s.2 (omega (arith, heads)))
      | inr ne ↦ sym (drop_first x i xs ne) ∙ h i l ∙ drop_first y i ys (λ e. ne (heads ∙ e))
    ]
