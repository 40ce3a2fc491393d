-- Orders that are joined, and groups that are weighed and priced.
use Rattle.std.proofs.Common.{◌≡◌, ℕ, ◌+◌, ◌<◌, true, cond, eqb, List, ◌∷◌, ◌++◌, length, get_or, set, take, drop, min, max, sym, ap, ◌∙◌, subst, inl, inr, arith}
use Rattle.std.proofs.lemmas.Bool.{eq-eqb, ne_eqb, cond-true, cond-false, cases_lt, and_parts}
use Rattle.std.proofs.lemmas.List.{get_or_default}
use Rattle.std.proofs.lemmas.List.Edits.{map_over_more}
use Rattle.mill_model.specs.declared.ask.Ask.TheVariants.{Pair}
use Rattle.mill_model.specs.Columns.{Column, has}
use Rattle.mill_model.specs.Decisions.{Decision, agrees, column_agrees}
use Rattle.pricing_laws.proofs.Pairs.{both_or_neither}
use Rattle.pricing_laws.specs.Groups.{head_of, AreHeads}
use Rattle.pricing_laws.proofs.Groups.{heads_stay, heads_renamed}
use Rattle.price_check.specs.Groupings.{renamed}

-- ---- one head in the place of another, order by order

module _ (gone kept : ℕ) (heads now : List ℕ) (i : ℕ) (within : i < length heads) (inside : i < length now) (so_far : now ≡ renamed gone kept (take i heads) ++ drop i heads) where
  written : set now i (cond (eqb (get_or now i 0) gone) kept (get_or now i 0)) ≡ renamed gone kept (take (i + 1) heads) ++ drop (i + 1) heads
  written = map_over_more (λ h. cond (eqb h gone) kept h) heads now i (get_or now i 0) within so_far (get_or_default now i 0 (get_or now i 0) inside)

  pub renamed_there : get_or now i 0 ≡ gone → set now i kept ≡ renamed gone kept (take (i + 1) heads) ++ drop (i + 1) heads
  renamed_there e = ap (set now i) (sym (cond-true (eqb (get_or now i 0) gone) kept (get_or now i 0) (eq-eqb (get_or now i 0) gone e))) ∙ written

  pub left_there : (get_or now i 0 ≡ gone → ⊥) → set now i (get_or now i 0) ≡ renamed gone kept (take (i + 1) heads) ++ drop (i + 1) heads
  left_there ne = ap (set now i) (sym (cond-false (eqb (get_or now i 0) gone) kept (get_or now i 0) (ne_eqb (get_or now i 0) gone ne))) ∙ written

-- ---- decision by decision

pub heads_later : (decisions : List Decision) (d : Decision) (heads : List ℕ) → AreHeads decisions heads → AreHeads (d ∷ decisions) heads
heads_later decisions d heads are = heads_stay decisions (d ∷ decisions) heads (λ c h. (and_parts (agrees c d) (column_agrees decisions c) h).1) are

-- two orders that are put together share the lesser head
pub heads_pair : (decisions : List Decision) (heads : List ℕ) (i j : ℕ) → i < length heads → j < length heads → AreHeads decisions heads
    → AreHeads ((Pair i j, true) ∷ decisions) (renamed (max (head_of heads i) (head_of heads j)) (min (head_of heads i) (head_of heads j)) heads)
heads_pair decisions heads i j h k are = elim (cases_lt (head_of heads i) (head_of heads j)) [
  | inl less ↦ by_names (head_of heads j) (head_of heads i) (omega arith) (omega arith) (heads_renamed ((Pair i j, true) ∷ decisions) heads (head_of heads j) (head_of heads i) later (omega arith) (omega (arith, are.before i h)) (are.fixed i h) (λ c agree. sym (alike c agree)))
  | inr less ↦ by_names (head_of heads i) (head_of heads j) (omega arith) (omega arith) (heads_renamed ((Pair i j, true) ∷ decisions) heads (head_of heads i) (head_of heads j) later less (omega (arith, are.before j k)) (are.fixed j k) alike)
]
  where
    later : AreHeads ((Pair i j, true) ∷ decisions) heads
    later = heads_later decisions (Pair i j, true) heads are

    alike : (c : Column) → column_agrees ((Pair i j, true) ∷ decisions) c ≡ true → has c.orders (head_of heads i) ≡ has c.orders (head_of heads j)
    alike c agree = sym (later.joined c agree i h) ∙ both_or_neither (has c.orders i) (has c.orders j) ((and_parts (agrees c (Pair i j, true)) (column_agrees decisions c) agree).0) ∙ later.joined c agree j k

    by_names : (gone kept : ℕ) → max (head_of heads i) (head_of heads j) ≡ gone → min (head_of heads i) (head_of heads j) ≡ kept → AreHeads ((Pair i j, true) ∷ decisions) (renamed gone kept heads)
        → AreHeads ((Pair i j, true) ∷ decisions) (renamed (max (head_of heads i) (head_of heads j)) (min (head_of heads i) (head_of heads j)) heads)
    by_names gone kept e f = rw (e, f) (λ z. z)

-- the same as it was computed
pub heads_joined : (decisions : List Decision) (heads now : List ℕ) (i j x y gone kept : ℕ) → x ≡ i → y ≡ j → x < length heads → y < length heads → gone ≡ max (head_of heads x) (head_of heads y) → kept ≡ min (head_of heads x) (head_of heads y)
    → now ≡ renamed gone kept heads → AreHeads decisions heads → AreHeads ((Pair i j, true) ∷ decisions) now
heads_joined decisions heads now i j x y gone kept d e h k f g new are =
    subst (λ o. AreHeads ((Pair o j, true) ∷ decisions) now) d
    (subst (λ o. AreHeads ((Pair x o, true) ∷ decisions) now) e (subst (AreHeads ((Pair x y, true) ∷ decisions)) (sym (new ∙ ap (λ z. renamed z kept heads) f ∙ ap (λ z. renamed (max (head_of heads x) (head_of heads y)) z heads) g)) (heads_pair decisions heads x y h k are)))
