-- Bars as a table, and the bars of one slab.
use Rattle.std.proofs.Common.{◌≡◌, ℕ, zero, suc, ◌<◌, ◌+◌, ◌*◌, ◌%◌, ◌^◌, ◌⊎◌, Bool, true, false, cond, ◌&&◌, ◌||◌, eqb, List, [], ◌∷◌, length, get_or, set, take, drop, replicate, refl, sym, ap, ◌∙◌, inl, inr, arith}
use Rattle.std.specs.Prelude.{nat_lt}
use Rattle.std.specs.List.{list_any}
use Rattle.std.specs.Int.{bit_at, w64}
use Rattle.std.specs.Int.RustNames.{bit_or}
use Rattle.std.proofs.lemmas.Bool.{cases_eq, eq-eqb, ne_eqb, lt-ltb, or_left, or_right}
use Rattle.std.proofs.lemmas.List.{get_or-set_same, get_or-set_other, take-append-drop}
use Rattle.std.proofs.lemmas.List.Folds.{list_any_more, list_any-append}
use Rattle.std.proofs.lemmas.Nat.Bits.{bit_at-zero, bit_at_set_same, bit_at_set_other}
use Rattle.mill_model.specs.Mill.{Mill, Bar, is_bar, most_slabs}
use Rattle.mill_model.specs.BarTable.{is_marked, AreMarked}
use Rattle.mill_model.specs.Columns.{is_barred}
use Rattle.mill_model.specs.declared.kind.Kind.{Kind}
use Rattle.mill_model.specs.declared.kind.Kind.TheVariants.{New, Old}
use Rattle.mill_model.specs.Plans.{is_new, places_of}
use Rattle.mill_model.proofs.Judging.{places_of-append}
use Rattle.mill_model.proofs.Colours.{places_more}

-- ---- the table

no_row : (n o : ℕ) → get_or {A = ℕ} (replicate n 0) o 0 ≡ 0
no_row zero o = refl
no_row (suc n) zero = refl
no_row (suc n) (suc o) = no_row n o

none_marked : (n o s : ℕ) → is_marked (replicate n 0) o s ≡ false
none_marked n o s = rw (no_row n o, bit_at-zero s) (no_test (nat_lt s most_slabs))
  where
    no_test : (b : Bool) → (b && false) ≡ false
    no_test true = refl
    no_test false = refl

pub empty_marks : (n : ℕ) (bars : List Bar) → AreMarked (take 0 bars) (replicate n 0)
empty_marks n bars o s = none_marked n o s

one_mark : (b v : ℕ) (rows : List ℕ) (o s : ℕ) → b < length rows → o ≡ b → is_marked (set rows b v) o s ≡ (nat_lt s most_slabs && eqb (bit_at v s) 1)
one_mark b v rows o s l e = ap (λ n. nat_lt s most_slabs && eqb (bit_at n s) 1) (ap (λ i. get_or (set rows b v) i 0) e ∙ get_or-set_same rows b v 0 l)

-- one bar more
one_more_mark : (rows : List ℕ) (b t o s : ℕ) → b < length rows → t < most_slabs → is_marked (set rows b (bit_or (get_or rows b 0) (1 * 2 ^ t % 2 ^ 64))) o s ≡ (is_marked rows o s || is_bar o s (b, t))
one_more_mark rows b t o s l k = elim (cases_eq o b) [
  | inl e ↦ elim (cases_eq s t) [
    | inl q ↦
        one_mark b (bit_or (get_or rows b 0) (1 * 2 ^ t % 2 ^ 64)) rows o s l e
        ∙ ap (λ i. nat_lt i most_slabs && eqb (bit_at (bit_or (get_or rows b 0) (1 * 2 ^ t % 2 ^ 64)) i) 1) q
        ∙ rw (lt-ltb t most_slabs k, bit_at_set_same w64 (get_or rows b 0) t (omega arith)) refl
        ∙ sym (or_right (is_marked rows o s) (is_bar o s (b, t)) (rw (eq-eqb b o (sym e), eq-eqb t s (sym q)) refl))
    | inr q ↦
        one_mark b (bit_or (get_or rows b 0) (1 * 2 ^ t % 2 ^ 64)) rows o s l e
        ∙ ap (λ n. nat_lt s most_slabs && eqb n 1) (bit_at_set_other w64 (get_or rows b 0) t (omega arith) s q)
        ∙ rw (e, ne_eqb t s (λ w. q (sym w))) (sym (or_no (is_marked rows b s) (eqb b b)))
  ]
  | inr e ↦
      ap (λ n. nat_lt s most_slabs && eqb (bit_at n s) 1) (get_or-set_other rows b o (bit_or (get_or rows b 0) (1 * 2 ^ t % 2 ^ 64)) 0 e)
      ∙ rw (ne_eqb b o (λ w. e (sym w))) (sym (or_none (is_marked rows o s)))
]
  where
    or_no : (x y : Bool) → (x || (y && false)) ≡ x
    or_no true true = refl
    or_no true false = refl
    or_no false true = refl
    or_no false false = refl

    or_none : (x : Bool) → (x || (false && eqb t s)) ≡ x
    or_none true = refl
    or_none false = refl

pub marks_more : (bars : List Bar) (rows : List ℕ) (i b t : ℕ) (d : Bar) → i < length bars → get_or bars i d ≡ (b, t) → b < length rows → t < most_slabs → AreMarked (take i bars) rows → AreMarked (take (i + 1) bars) (set rows b (bit_or (get_or rows b 0) (1 * 2 ^ t % 2 ^ 64)))
marks_more bars rows i b t d h e l k are o s =
    one_more_mark rows b t o s l k
    ∙ ap (λ x. x || is_bar o s (b, t)) (are o s)
    ∙ sym (list_any_more (is_bar o s) bars i d h ∙ ap (λ bar. list_any (is_bar o s) (take i bars) || is_bar o s bar) e)

-- ---- one slab

-- a new slab bars no order
pub new_bars_none : (m : Mill) (kind : Kind) (orders : List ℕ) → is_new kind ≡ true → list_any (λ o. is_barred m o kind) orders ≡ false
new_bars_none m (New size) [] e = refl
new_bars_none m (New size) (o ∷ orders) e = new_bars_none m (New size) orders e
new_bars_none m (Old s) orders e = cc

-- ---- order by order

-- the orders on slab k among the first so many, one order more
pub any_more : (test : ℕ → Bool) (k : ℕ) (place : List ℕ) (o : ℕ) → o < length place → list_any test (places_of k 0 (take (o + 1) place)) ≡ (list_any test (places_of k 0 (take o place)) || (eqb (get_or place o 0) k && test o))
any_more test k place o h =
    ap (list_any test) (places_more k place o h)
    ∙ list_any-append test (places_of k 0 (take o place)) (cond (eqb (get_or place o 0) k) (o ∷ []) [])
    ∙ ap (λ b. list_any test (places_of k 0 (take o place)) || b) (by_test (eqb (get_or place o 0) k))
  where
    by_test : (b : Bool) → list_any test (cond b (o ∷ []) []) ≡ (b && test o)
    by_test true = only (test o)
      where
        only : (b : Bool) → (b || false) ≡ (true && b)
        only true = refl
        only false = refl
    by_test false = refl

-- an order on slab k that passes
pub any_found : (test : ℕ → Bool) (k : ℕ) (place : List ℕ) (o : ℕ) → o < length place → get_or place o 0 ≡ k → test o ≡ true → list_any test (places_of k 0 place) ≡ true
any_found test k place o h e t =
    ap (λ xs. list_any test (places_of k 0 xs)) (sym (take-append-drop (o + 1) place))
    ∙ ap (list_any test) (places_of-append k 0 (take (o + 1) place) (drop (o + 1) place))
    ∙ list_any-append test (places_of k 0 (take (o + 1) place)) (places_of k (0 + length (take (o + 1) place)) (drop (o + 1) place))
    ∙ or_left (list_any test (places_of k 0 (take (o + 1) place))) (list_any test (places_of k (0 + length (take (o + 1) place)) (drop (o + 1) place)))
    (any_more test k place o h ∙ rw (eq-eqb (get_or place o 0) k e, t) (yes_there (list_any test (places_of k 0 (take o place)))))
  where
    yes_there : (b : Bool) → (b || (true && true)) ≡ true
    yes_there true = refl
    yes_there false = refl

-- one order more that isn't on slab k, or doesn't pass
pub any_none : (test : ℕ → Bool) (k : ℕ) (place : List ℕ) (o : ℕ) → o < length place → (get_or place o 0 ≡ k → test o ≡ false) → list_any test (places_of k 0 (take o place)) ≡ false → list_any test (places_of k 0 (take (o + 1) place)) ≡ false
any_none test k place o h fails before = any_more test k place o h ∙ rw before (by_place (cases_eq (get_or place o 0) k))
  where
    by_place : (get_or place o 0 ≡ k) ⊎ (get_or place o 0 ≡ k → ⊥) → (false || (eqb (get_or place o 0) k && test o)) ≡ false
    by_place (inl e) = rw (eq-eqb (get_or place o 0) k e, fails e) refl
    by_place (inr e) = rw (ne_eqb (get_or place o 0) k e) refl
