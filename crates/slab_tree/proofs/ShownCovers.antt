-- A cover stays one without the columns whose multiplier is 0.
use Rattle.std.proofs.Common.{◌≡◌, ℕ, zero, suc, ◌+◌, ◌*◌, ◌^◌, ◌<◌, ◌≤◌, ℤ, pos, negsuc, ◌*ℤ◌, ◌<ℤ◌, ◌≤ℤ◌, Bool, true, false, Some, List, [], ◌∷◌, ◌++◌, map, length, All, refl, sym, ap, ap₂, subst, ◌∙◌, append_assoc, append-nil, arith, cond, unsigned_abs}
use Rattle.std.specs.List.{sum_by, AllByRecursion}
use Rattle.std.proofs.lemmas.Int.{ints}
use Rattle.std.proofs.lemmas.List.{map-append}
use Rattle.std.proofs.lemmas.List.Elements.{All-head, All-tail}
use Rattle.std.proofs.lemmas.List.Sums.{sum_by-cons, sum_by-append}
use Rattle.mill_model.specs.declared.limits.Limits.{Limits}
use Rattle.mill_model.specs.Mill.{Mill}
use Rattle.mill_model.specs.Columns.{Column, IsLegalColumn, has, is_old, loss_of}
use Rattle.mill_model.specs.Covers.{Part, IsCover, times}
use Rattle.mill_model.specs.Decisions.{Decision, column_agrees}
use Rattle.mill_model.specs.Limits.{AtMost}
use Rattle.mill_model.specs.Plans.{is_new}
use Rattle.mill_model.specs.Shares.{Share, part_of, IsMultiplier, IsShown}
use Rattle.slab_columns.specs.declared.column.ColId.{ColId}
use Rattle.slab_frac.specs.Fraction.{Fraction}
use Rattle.slab_frac.specs.Scaled.{IsScaled, IsMultipleBy, IsCommonForm, AreInRange}
use Rattle.slab_relax.specs.PoolCovers.{Parts, IsPoolCover, column_at, multipliers, parts_of}
use Rattle.slab_tree.specs.Showing.{share_of, shares_of}

pub shares_of-push : (columns : List Column) (xs : Parts) (ks : List ℤ) (x : ColId × Fraction) (k : ℤ) → length xs ≡ length ks → shares_of columns (xs ++ x ∷ []) (ks ++ k ∷ []) ≡ shares_of columns xs ks ++ share_of (column_at columns x.0) k
shares_of-push columns [] [] x k e = append-nil (share_of (column_at columns x.0) k)
shares_of-push columns [] (j ∷ ks) x k e = absurd (omega arith)
shares_of-push columns (y ∷ xs) [] x k e = absurd (omega arith)
shares_of-push columns (y ∷ xs) (j ∷ ks) x k e = ap (λ ss. share_of (column_at columns y.0) j ++ ss) (shares_of-push columns xs ks x k (omega arith)) ∙ sym (append_assoc (share_of (column_at columns y.0) j) (shares_of columns xs ks) (share_of (column_at columns x.0) k))

abbrev AreNotNegative : List ℤ → Type 0
AreNotNegative ks = AllByRecursion (λ k. pos 0 ≤ℤ k) ks

-- what counts a part with multiplier 0 as nothing counts the same without it
module _ (columns : List Column) (f : Part → ℕ) (none : (c : Column) → f (c, 0) ≡ 0) where
  one_share : (c : Column) (k : ℤ) → pos 0 ≤ℤ k → sum_by f (map part_of (share_of c k)) ≡ f (c, unsigned_abs k)
  one_share c (pos zero) h = sym (none c)
  one_share c (pos (suc k)) h = omega arith
  one_share c (negsuc k) h = absurd (omega (arith, ints))

  pub same_sum : (cover : Parts) (ks : List ℤ) → AreNotNegative ks → sum_by f (map part_of (shares_of columns cover ks)) ≡ sum_by f (parts_of columns cover ks)
  same_sum [] ks h = refl
  same_sum (part ∷ cover) [] h = refl
  same_sum (part ∷ cover) (k ∷ ks) h =
      ap (λ ps. sum_by f ps) (map-append part_of (share_of (column_at columns part.0) k) (shares_of columns cover ks))
      ∙ sum_by-append f (map part_of (share_of (column_at columns part.0) k)) (map part_of (shares_of columns cover ks))
      ∙ ap₂ (λ x y. x + y) (one_share (column_at columns part.0) k h.0) (same_sum cover ks h.1)
      ∙ sym (sum_by-cons f (column_at columns part.0, unsigned_abs k) (parts_of columns cover ks))

all_append : {X : Type 0} (P : X → Type 0) (xs ys : List X) → AllByRecursion P xs → AllByRecursion P ys → AllByRecursion P (xs ++ ys)
all_append P [] ys h k = k
all_append P (x ∷ xs) ys h k = (h.0, all_append P xs ys h.1 k)

module _ (columns : List Column) (P : Column → Type 0) where
  legal_share : (c : Column) (k : ℤ) → P c → AllByRecursion (λ (part : Part). P part.0) (map part_of (share_of c k))
  legal_share c (pos zero) h = tt
  legal_share c (pos (suc k)) h = (h, tt)
  legal_share c (negsuc k) h = tt

  pub legal_shares : (cover : Parts) (ks : List ℤ) → AllByRecursion (λ (part : Part). P part.0) (parts_of columns cover ks) → AllByRecursion (λ (part : Part). P part.0) (map part_of (shares_of columns cover ks))
  legal_shares [] ks h = tt
  legal_shares (part ∷ cover) [] h = tt
  legal_shares (part ∷ cover) (k ∷ ks) h =
      subst (λ (ps : List Part). AllByRecursion (λ (p : Part). P p.0) ps) (sym (map-append part_of (share_of (column_at columns part.0) k) (shares_of columns cover ks)))
      (all_append (λ (p : Part). P p.0) (map part_of (share_of (column_at columns part.0) k)) (map part_of (shares_of columns cover ks)) (legal_share (column_at columns part.0) k h.0) (legal_shares cover ks h.1))

small_share : (c : Column) (k : ℤ) → unsigned_abs k ≤ 2 ^ 62 → AllByRecursion (λ (share : Share). IsMultiplier share.times) (share_of c k)
small_share c (pos zero) h = tt
small_share c (pos (suc k)) h = ((omega (arith, ints), omega (arith, ints)), tt)
small_share c (negsuc k) h = tt

abbrev AreSmall : List ℤ → Type 0
AreSmall ks = AllByRecursion (λ k. unsigned_abs k ≤ 2 ^ 62) ks

small_shares : (columns : List Column) (cover : Parts) (ks : List ℤ) → AreSmall ks → AllByRecursion (λ (share : Share). IsMultiplier share.times) (shares_of columns cover ks)
small_shares columns [] ks h = tt
small_shares columns (part ∷ cover) [] h = tt
small_shares columns (part ∷ cover) (k ∷ ks) h = all_append (λ (share : Share). IsMultiplier share.times) (share_of (column_at columns part.0) k) (shares_of columns cover ks) (small_share (column_at columns part.0) k h.0) (small_shares columns cover ks h.1)

-- ---- the cover

shown_cover : (m : Mill) (limits : Limits) (decisions : List Decision) (columns : List Column) (cover : Parts) (d : ℕ) (ks : List ℤ) → AreNotNegative ks → IsCover m limits decisions d (parts_of columns cover ks) → IsCover m limits decisions d (map part_of (shares_of columns cover ks))
shown_cover m limits decisions columns cover d ks signs h = record {
  denominator = h.denominator;
  legal = legal_shares columns (λ c. IsLegalColumn m c × (column_agrees decisions c ≡ true)) cover ks h.legal;
  orders = λ o lt. same_sum columns (λ part. cond (has part.0.orders o) part.1 0) (λ c. none_or (has c.orders o)) cover ks signs ∙ h.orders o lt;
  yard = λ s lt. subst (λ (n : ℕ). n ≤ d) (sym (same_sum columns (λ part. cond (is_old s part.0.kind) part.1 0) (λ c. none_or (is_old s c.kind)) cover ks signs)) (h.yard s lt);
  loss = subst (λ (n : ℕ). AtMost (Some (pos n)) (times d limits.loss)) (sym (same_sum columns (λ part. part.1 * loss_of m part.0) (λ c. omega arith) cover ks signs)) h.loss;
  count = subst (λ (n : ℕ). AtMost (Some (pos n)) (times d limits.count)) (sym (same_sum columns (λ part. cond (is_new part.0.kind) part.1 0) (λ c. none_or (is_new c.kind)) cover ks signs)) h.count;
}
  where
    none_or : (b : Bool) → cond {A = ℕ} b 0 0 ≡ 0
    none_or true = refl
    none_or false = refl

-- ---- the multipliers

scaled_sign : (d : ℕ) (x : Fraction) (k : ℤ) → pos 0 <ℤ x.num → IsMultipleBy d x k → pos 0 ≤ℤ k
scaled_sign d x (pos k) h w = omega (arith, ints)
scaled_sign d x (negsuc k) h w = absurd (below k x.den x.num d w.0 h w.1)
  where
    below : (k den : ℕ) (num : ℤ) (d : ℕ) → 0 < den → pos 0 <ℤ num → negsuc k *ℤ pos den ≡ num *ℤ pos d → ⊥
    below k den (pos num) d lt h e = omega (arith, ints)
    below k den (negsuc num) d lt h e = omega (arith, ints)

scaled_signs : (d : ℕ) (cover : Parts) (ks : List ℤ) → All (λ (part : ColId × Fraction). pos 0 <ℤ part.1.num) cover → IsScaled d (multipliers cover) ks → AreNotNegative ks
scaled_signs d [] [] h w = tt
scaled_signs d [] (k ∷ ks) h w = absurd w
scaled_signs d (part ∷ cover) [] h w = absurd w
scaled_signs d (part ∷ cover) (k ∷ ks) h w = (
  scaled_sign d part.1 k (All-head (λ (p : ColId × Fraction). pos 0 <ℤ p.1.num) part cover h) w.0,
  scaled_signs d cover ks (All-tail (λ (p : ColId × Fraction). pos 0 <ℤ p.1.num) part cover h) w.1,
)

all_small : (ks : List ℤ) → AreInRange ks → AreSmall ks
all_small [] h = tt
all_small (k ∷ ks) h = (All-head (λ (j : ℤ). unsigned_abs j ≤ 2 ^ 62) k ks h, all_small ks (All-tail (λ (j : ℤ). unsigned_abs j ≤ 2 ^ 62) k ks h))

denominator_small : (z : ℤ) → 0 < unsigned_abs z → pos (unsigned_abs z) ≡ z → unsigned_abs z ≤ 2 ^ 62 → IsMultiplier z
denominator_small z lt e le = (omega (arith, ints), omega (arith, ints))

-- a cover over its least common denominator is shown by its columns with multipliers above 0
pub shows : (m : Mill) (limits : Limits) (decisions : List Decision) (columns : List Column) (cover : Parts) (z : ℤ) (ks : List ℤ) → IsPoolCover m limits decisions columns cover → IsCommonForm (multipliers cover) z ks
    → IsShown m limits decisions (record { d = z; shares = shares_of columns cover ks })
shows m limits decisions columns cover z ks h form = record {
  denominator = denominator_small z form.least.positive form.positive form.in_range.0;
  multipliers = small_shares columns cover ks (all_small ks form.in_range.1);
  covers = shown_cover m limits decisions columns cover (unsigned_abs z) ks (scaled_signs (unsigned_abs z) cover ks h.above form.scaled) (h.every (unsigned_abs z) ks form.least.positive form.scaled);
}
