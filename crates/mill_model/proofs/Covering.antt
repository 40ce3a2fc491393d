-- Each attained pair is at least some point of a front in both numbers.
use Rattle.std.proofs.Common.{◌≡◌, ◌⊎◌, ℕ, zero, suc, ◌+◌, ◌<◌, ◌≤◌, List, [], ◌∷◌, Contains, arith, ap, inl, inr}
use Rattle.std.proofs.lemmas.Bool.{cases_lt}
use Rattle.mill_model.specs.declared.sums.Sums.{Sums}
use Rattle.mill_model.specs.Mill.{Mill}
use Rattle.mill_model.specs.Plans.{IsAttained}
use Rattle.mill_model.specs.Fronts.{Dominates, IsFront, Covers}
use Rattle.mill_model.proofs.Gap.{Contains-here, Contains-later, Contains-cases}

-- some member is at most the pair in both numbers, or none is
covers_or_not : (xs : List Sums) (y : Sums) → Covers xs y ⊎ (Covers xs y → ⊥)
covers_or_not [] y = inr (λ c. absurd (none c.0 c.1))
  where
    none : (x : Sums) → Contains [] x → ⊥
    none x c = omega (arith, c.1)
covers_or_not (x ∷ xs) y = elim (covers_or_not xs y) [
  | inl c ↦ inl (c.0, Contains-later x xs c.0 c.1, c.2, c.3)
  | inr rest ↦ elim (cases_lt y.loss x.loss) [
    | inl l ↦ inr (λ c. elim (Contains-cases x xs c.0 c.1) [ inl e ↦ over (ap (λ s. s.loss) e) c.2 l | inr k ↦ rest (c.0, k, c.2, c.3) ])
    | inr l ↦ elim (cases_lt y.count x.count) [
      | inl k ↦ inr (λ c. elim (Contains-cases x xs c.0 c.1) [ inl e ↦ over (ap (λ s. s.count) e) c.3 k | inr h ↦ rest (c.0, h, c.2, c.3) ])
      | inr k ↦ inl (x, Contains-here x xs, l, k)
    ]
  ]
]
  where
    over : {a b c : ℕ} → a ≡ b → b ≤ c → c < a → ⊥
    over e h k = omega (arith, e, h, k)

-- a pair that is covered covers what it is at most
covers_above : (xs : List Sums) (y x : Sums) → y.loss ≤ x.loss → y.count ≤ x.count → Covers xs y → Covers xs x
covers_above xs y x h k c = (c.0, c.1, (omega (arith, h, c.2)), (omega (arith, k, c.3)))

same : (y x : Sums) → y.loss ≡ x.loss → y.count ≡ x.count → y ≡ x
same y x p q = λ i. record { loss = p i; count = q i }

-- no attained pair is left uncovered
none_left : (m : Mill) (xs : List Sums) → IsFront m xs → (fuel : ℕ) (x : Sums) → x.loss + x.count < fuel → IsAttained m x → (Covers xs x → ⊥) → ⊥
none_left m xs front zero x h attained not = omega (arith, h)
none_left m xs front (suc fuel) x h attained not = not (x, (front.exact x).1 (attained, λ y also dominates. left_below m xs x fuel h not y also dominates (none_left m xs front fuel y)), (omega arith), (omega arith))
  where
    left_below : (m : Mill) (xs : List Sums) (x : Sums) (fuel : ℕ) → x.loss + x.count < suc fuel → (Covers xs x → ⊥) → (y : Sums) → IsAttained m y → Dominates y x → (y.loss + y.count < fuel → IsAttained m y → (Covers xs y → ⊥) → ⊥) → ⊥
    left_below m xs x fuel h not y also dominates again = elim (covers_or_not xs y) [
      | inl c ↦ not (covers_above xs y x dominates.0 dominates.1 c)
      | inr c ↦ elim (cases_lt (y.loss + y.count) (x.loss + x.count)) [
        | inl l ↦ again (omega (arith, l, h)) also c
        | inr l ↦ dominates.2 (same y x (omega (arith, l, dominates.0, dominates.1)) (omega (arith, l, dominates.0, dominates.1)))
      ]
    ]

pub covered : (m : Mill) (xs : List Sums) (x : Sums) → IsFront m xs → IsAttained m x → Covers xs x
covered m xs x front attained = elim (covers_or_not xs x) [
  | inl c ↦ c
  | inr c ↦ absurd (none_left m xs front (suc (x.loss + x.count)) x (omega arith) attained c)
]
