-- Columns with a multiplier of 0 may be left out of a cover.
use Rattle.std.proofs.Common.{◌≡◌, ℕ, zero, suc, ◌+◌, ◌*◌, ◌<◌, ◌≤◌, ℤ, pos, ◌*ℤ◌, ◌≤ℤ◌, ◌<ℤ◌, Bool, true, false, cond, List, [], ◌∷◌, ◌++◌, length, map, take, get_or, All, sum_by, sym, refl, ap, ◌∙◌, subst, inl, inr, arith, zero-add, zero-mul, Some}
use Rattle.std.specs.Prelude.{unsigned_abs}
use Rattle.std.specs.Int.{is_positive}
use Rattle.std.specs.List.{AllByRecursion, filter, zip}
use Rattle.std.proofs.lemmas.Int.{ints}
use Rattle.std.proofs.lemmas.Bool.{cases_Bool}
use Rattle.std.proofs.Math.IntN.{zero-*ℤ}
use Rattle.std.proofs.lemmas.List.{append-nil}
use Rattle.std.proofs.lemmas.List.Sums.{sum_by-cons}
use Rattle.std.proofs.lemmas.List.Elements.{All-head, All-tail, filter-append}
use Rattle.mill_model.specs.declared.limits.Limits.{Limits}
use Rattle.mill_model.specs.Mill.{Mill}
use Rattle.mill_model.specs.Columns.{Column, IsLegalColumn, has, is_old, loss_of}
use Rattle.mill_model.specs.Plans.{is_new}
use Rattle.mill_model.specs.Limits.{AtMost}
use Rattle.mill_model.specs.Decisions.{Decision, column_agrees}
use Rattle.mill_model.specs.Covers.{Part, times, IsCover}
use Rattle.slab_frac.specs.Fraction.{Fraction}
use Rattle.slab_frac.specs.Scaled.{IsMultipleBy, IsScaled}
use Rattle.slab_columns.specs.declared.column.ColId.{ColId}
use Rattle.slab_relax.specs.PoolCovers.{Parts, multipliers, column_at, parts_by, parts_of}
use Rattle.slab_relax.specs.Masters.{used_of}

-- a multiplier that isn't negative
abbrev pub IsUsable : Fraction → Type 0
IsUsable x = (0 < x.den) × (pos 0 ≤ℤ x.num)

abbrev pub IsAllowedPart : Mill → List Decision → Part → Type 0
IsAllowedPart m decisions part = IsLegalColumn m part.0 × (column_agrees decisions part.0 ≡ true)

-- whole multipliers of all columns, with 0 where a column is left out
pub record IsFilled (m : Mill) (decisions : List Decision) (columns : List Column) (d : ℕ) (ids : List ColId) (xs : List Fraction) (ks : List ℤ) : Type 0 where
  pub all : List ℤ
  pub scaled : IsScaled d xs all
  pub sums : (f : Part → ℕ) → ((c : Column) → f (c, 0) ≡ 0) → sum_by f (parts_by (map (column_at columns) ids) all) ≡ sum_by f (parts_of columns (used_of ids xs) ks)
  pub allowed : AllByRecursion (IsAllowedPart m decisions) (parts_by (map (column_at columns) ids) all) → AllByRecursion (IsAllowedPart m decisions) (parts_of columns (used_of ids xs) ks)

zero_is : (x : ℤ) → pos 0 ≤ℤ x → is_positive x ≡ false → x ≡ pos 0
zero_is x h e = grind (arith, ints)

pub above_is : (x : ℤ) → is_positive x ≡ true → pos 0 <ℤ x
above_is x e = grind (arith, ints)

-- a column with a multiplier above 0 stays
filled_with : (m : Mill) (decisions : List Decision) (columns : List Column) (d : ℕ) (ids : List ColId) (xs : List Fraction) (id : ColId) (x : Fraction) (k : ℤ) (ks : List ℤ) → is_positive x.num ≡ true → IsMultipleBy d x k
    → IsFilled m decisions columns d ids xs ks → IsFilled m decisions columns d (id ∷ ids) (x ∷ xs) (k ∷ ks)
filled_with m decisions columns d ids xs id x k ks e here rest = record {
  all = k ∷ rest.all;
  scaled = (here, rest.scaled);
  sums = λ f z. rw e (sum_by-cons f (column_at columns id, unsigned_abs k) (parts_by (map (column_at columns) ids) rest.all) ∙ ap (λ (n : ℕ). f (column_at columns id, unsigned_abs k) + n) (rest.sums f z) ∙ sym (sum_by-cons f (column_at columns id, unsigned_abs k) (parts_of columns (used_of ids xs) ks)));
  allowed = λ h. rw e (h.0, rest.allowed h.1);
}

-- and one with a multiplier of 0 is left out
filled_without : (m : Mill) (decisions : List Decision) (columns : List Column) (d : ℕ) (ids : List ColId) (xs : List Fraction) (id : ColId) (x : Fraction) (ks : List ℤ) → is_positive x.num ≡ false → IsUsable x
    → IsFilled m decisions columns d ids xs ks → IsFilled m decisions columns d (id ∷ ids) (x ∷ xs) ks
filled_without m decisions columns d ids xs id x ks e usable rest = record {
  all = pos 0 ∷ rest.all;
  scaled = ((usable.0, zero-*ℤ (pos x.den) ∙ sym (ap (λ (z : ℤ). z *ℤ pos d) (zero_is x.num usable.1 e) ∙ zero-*ℤ (pos d))), rest.scaled);
  sums = λ f z. rw e (sum_by-cons f (column_at columns id, 0) (parts_by (map (column_at columns) ids) rest.all) ∙ ap (λ (n : ℕ). n + sum_by f (parts_by (map (column_at columns) ids) rest.all)) (z (column_at columns id)) ∙ zero-add (sum_by f (parts_by (map (column_at columns) ids) rest.all)) ∙ rest.sums f z);
  allowed = λ h. rw e (rest.allowed h.1);
}

pub filled : (m : Mill) (decisions : List Decision) (columns : List Column) (d : ℕ) (ids : List ColId) (xs : List Fraction) (ks : List ℤ) → length xs ≡ length ids → All IsUsable xs → IsScaled d (multipliers (used_of ids xs)) ks → IsFilled m decisions columns d ids xs ks
filled m decisions columns d [] [] [] l usable s = record { all = []; scaled = tt; sums = λ f z. refl; allowed = λ h. tt }
filled m decisions columns d [] [] (k ∷ ks) l usable s = absurd s
filled m decisions columns d [] (x ∷ xs) ks l usable s = absurd (omega arith)
filled m decisions columns d (id ∷ ids) [] ks l usable s = absurd (omega arith)
filled m decisions columns d (id ∷ ids) (x ∷ xs) ks l usable s = elim (cases_Bool (is_positive x.num)) [
  | inl e ↦ taken e (λ js t. filled m decisions columns d ids xs js (omega arith) (All-tail IsUsable x xs usable) t) ks (subst (λ (b : Bool). IsScaled d (multipliers (cond b ((id, x) ∷ used_of ids xs) (used_of ids xs))) ks) e s)
  | inr e ↦ filled_without m decisions columns d ids xs id x ks e (All-head IsUsable x xs usable)
      (filled m decisions columns d ids xs ks (omega arith) (All-tail IsUsable x xs usable) (subst (λ (b : Bool). IsScaled d (multipliers (cond b ((id, x) ∷ used_of ids xs) (used_of ids xs))) ks) e s))
]
  where
    taken : is_positive x.num ≡ true → ((js : List ℤ) → IsScaled d (multipliers (used_of ids xs)) js → IsFilled m decisions columns d ids xs js) → (js : List ℤ) → IsScaled d (x ∷ multipliers (used_of ids xs)) js → IsFilled m decisions columns d (id ∷ ids) (x ∷ xs) js
    taken e rest [] t = absurd t
    taken e rest (k ∷ js) t = filled_with m decisions columns d ids xs id x k js e t.0 (rest js t.1)

-- what a cover of all columns is without those left out
pub without_them : (m : Mill) (limits : Limits) (decisions : List Decision) (columns : List Column) (d : ℕ) (ids : List ColId) (xs : List Fraction) (ks : List ℤ) → (fill : IsFilled m decisions columns d ids xs ks)
    → IsCover m limits decisions d (parts_by (map (column_at columns) ids) fill.all) → IsCover m limits decisions d (parts_of columns (used_of ids xs) ks)
without_them m limits decisions columns d ids xs ks fill cover = record {
  denominator = cover.denominator;
  legal = fill.allowed cover.legal;
  orders = λ o h. sym (fill.sums (λ (part : Part). cond (has part.0.orders o) part.1 0) (λ c. same (has c.orders o))) ∙ cover.orders o h;
  yard = λ s h. subst (λ (n : ℕ). n ≤ d) (fill.sums (λ (part : Part). cond (is_old s part.0.kind) part.1 0) (λ c. same (is_old s c.kind))) (cover.yard s h);
  loss = subst (λ (n : ℕ). AtMost (Some (pos n)) (times d limits.loss)) (fill.sums (λ (part : Part). part.1 * loss_of m part.0) (λ c. none (loss_of m c))) cover.loss;
  count = subst (λ (n : ℕ). AtMost (Some (pos n)) (times d limits.count)) (fill.sums (λ (part : Part). cond (is_new part.0.kind) part.1 0) (λ c. same (is_new c.kind))) cover.count;
}
  where
    same : (b : Bool) → cond b zero zero ≡ zero
    same true = refl
    same false = refl

    none : (n : ℕ) → 0 * n ≡ 0
    none n = zero-mul n

-- ---- a loop

zip_more : (ids : List ColId) (xs : List Fraction) (i : ℕ) (id : ColId) (x : Fraction) → i < length ids → i < length xs → zip (take (i + 1) ids) (take (i + 1) xs) ≡ zip (take i ids) (take i xs) ++ (get_or ids i id, get_or xs i x) ∷ []
zip_more [] xs i id x h l = absurd (omega arith)
zip_more (a ∷ ids) [] i id x h l = absurd (omega arith)
zip_more (a ∷ ids) (b ∷ xs) zero id x h l = refl
zip_more (a ∷ ids) (b ∷ xs) (suc i) id x h l = ap (λ (n : ℕ). zip (take n (a ∷ ids)) (take n (b ∷ xs))) suc_is ∙ ap (λ (r : Parts). (a, b) ∷ r) (zip_more ids xs i id x (omega arith) (omega arith))
  where
    suc_is : suc i + 1 ≡ suc (i + 1)
    suc_is = omega arith

-- one column more
used_next : (ids : List ColId) (xs : List Fraction) (i : ℕ) (id : ColId) (x : Fraction) → i < length ids → i < length xs → used_of (take (i + 1) ids) (take (i + 1) xs) ≡ used_of (take i ids) (take i xs) ++ filter (λ (part : ColId × Fraction). is_positive part.1.num) ((get_or ids i id, get_or xs i x) ∷ [])
used_next ids xs i id x h l = ap (filter (λ (part : ColId × Fraction). is_positive part.1.num)) (zip_more ids xs i id x h l) ∙ filter-append (λ (part : ColId × Fraction). is_positive part.1.num) (zip (take i ids) (take i xs)) ((get_or ids i id, get_or xs i x) ∷ [])

pub used_more : (ids : List ColId) (xs : List Fraction) (i : ℕ) (id : ColId) (x : Fraction) (before : Parts) → i < length ids → i < length xs → is_positive (get_or xs i x).num ≡ true
    → before ≡ used_of (take i ids) (take i xs) → before ++ (get_or ids i id, get_or xs i x) ∷ [] ≡ used_of (take (i + 1) ids) (take (i + 1) xs)
used_more ids xs i id x before h l e was =
    let next = used_next ids xs i id x h l in
    let kept : filter (λ (part : ColId × Fraction). is_positive part.1.num) ((get_or ids i id, get_or xs i x) ∷ []) ≡ (get_or ids i id, get_or xs i x) ∷ [] = rw e refl in
    ap (λ (l : Parts). l ++ (get_or ids i id, get_or xs i x) ∷ []) was ∙ ap (λ (l : Parts). used_of (take i ids) (take i xs) ++ l) (sym kept) ∙ sym next

pub used_same : (ids : List ColId) (xs : List Fraction) (i : ℕ) (id : ColId) (x : Fraction) (before : Parts) → i < length ids → i < length xs → is_positive (get_or xs i x).num ≡ false
    → before ≡ used_of (take i ids) (take i xs) → before ≡ used_of (take (i + 1) ids) (take (i + 1) xs)
used_same ids xs i id x before h l e was =
    let next = used_next ids xs i id x h l in
    let none : filter (λ (part : ColId × Fraction). is_positive part.1.num) ((get_or ids i id, get_or xs i x) ∷ []) ≡ [] = rw e refl in
    was ∙ sym (append-nil (used_of (take i ids) (take i xs))) ∙ ap (λ (l : Parts). used_of (take i ids) (take i xs) ++ l) (sym none) ∙ sym next
