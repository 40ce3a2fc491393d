-- Groups that decisions keep apart.
use Rattle.std.proofs.Common.{◌≡◌, ℕ, ◌+◌, ◌*◌, ◌/◌, ◌%◌, ◌<◌, Bool, true, false, ◌&&◌, not, List, length, get_or, set, reverse, refl, ap, ap₂, sym, inl, inr, ◌∙◌, arith, get_or-set_other, length-set}
use Rattle.std.proofs.Math.Arith.{digits_div, digits_mod, digits_lt}
use Rattle.std.proofs.lemmas.Bool.{cases_eq, both_ways}
use Rattle.std.proofs.lemmas.List.Folds.{list_all_at}
use Rattle.price_check.proofs.Reversed.{list_all-reverse}
use Rattle.mill_model.specs.declared.ask.Ask.TheVariants.{Pair}
use Rattle.mill_model.specs.Columns.{Column, has}
use Rattle.mill_model.specs.Decisions.{Decision, agrees, column_agrees}
use Rattle.pricing_laws.specs.Groups.{head_of, AreHeads}
use Rattle.price_check.specs.Apartness.{mark_at, AreMarkedApart}

-- the place of a mark is one of the list
pub mark_within : (orders a b : ℕ) → a < orders → b < orders → a * orders + b < orders * orders
mark_within orders a b p q = digits_lt {q = a} {m = orders} {r = b} {c = orders} p q

-- one mark more
pub apart_more : (decisions : List Decision) (orders a b : ℕ) (apart : List Bool) → a < orders → b < orders → ((c : Column) → column_agrees decisions c ≡ true → has c.orders a ≡ true → has c.orders b ≡ true → ⊥) → AreMarkedApart decisions orders apart
    → AreMarkedApart decisions orders (set apart (a * orders + b) true)
apart_more decisions orders a b apart p q never are = record { size = omega (arith, length-set apart (a * orders + b) true, are.size); never = still }
  where
    still : (x y : ℕ) → x < orders → y < orders → mark_at orders (set apart (a * orders + b) true) x y ≡ true → (c : Column) → column_agrees decisions c ≡ true → has c.orders x ≡ true → has c.orders y ≡ true → ⊥
    still x y r s marked c agree u v = elim (cases_eq (x * orders + y) (a * orders + b)) [
      | inl same ↦
          let first : x ≡ a = sym (digits_div x s) ∙ ap (λ k. k / orders) same ∙ digits_div a q in
          let second : y ≡ b = sym (digits_mod x s) ∙ ap (λ k. k % orders) same ∙ digits_mod a q in
          never c agree (ap (λ k. has c.orders k) (sym first) ∙ u) (ap (λ k. has c.orders k) (sym second) ∙ v)
      | inr other ↦ are.never x y r s (sym (get_or-set_other apart (a * orders + b) (x * orders + y) true false other) ∙ marked) c agree u v
    ]

not_both : (a b : Bool) → not (a && b) ≡ true → a ≡ true → b ≡ true → ⊥
not_both a b n p q = both_ways (not (a && b)) (ap₂ (λ x y. not (x && y)) p q) n

-- no column that agrees has the heads of two orders that a decision keeps apart
pub heads_apart : (decisions : List Decision) (heads : List ℕ) (i j : ℕ) → AreHeads decisions heads → i < length heads → j < length heads → ((c : Column) → column_agrees decisions c ≡ true → agrees c (Pair i j, false) ≡ true)
    → (c : Column) → column_agrees decisions c ≡ true → has c.orders (head_of heads i) ≡ true → has c.orders (head_of heads j) ≡ true → ⊥
heads_apart decisions heads i j are p q apart c agree u v = not_both (has c.orders i) (has c.orders j) (apart c agree) (are.joined c agree i p ∙ u) (are.joined c agree j q ∙ v)

-- a column that agrees with the decisions agrees with each
pub agrees_at : (decisions listed : List Decision) (k : ℕ) (d : Decision) → reverse listed ≡ decisions → k < length listed → (c : Column) → column_agrees decisions c ≡ true → agrees c (get_or listed k d) ≡ true
agrees_at decisions listed k d same lt c agree = true_from_ne_false (agrees c (get_or listed k d)) (λ no. both_ways (column_agrees decisions c) (ap (λ ds. column_agrees ds c) (sym same) ∙ list_all-reverse (agrees c) listed ∙ list_all_at (agrees c) listed k d lt no) agree)
  where
    true_from_ne_false : (b : Bool) → (b ≡ false → ⊥) → b ≡ true
    true_from_ne_false true h = refl
    true_from_ne_false false h = absurd (h refl)
