-- The columns that a spread of the master uses are a cover.
use Rattle.std.proofs.Common.{◌≡◌, ℕ, ◌*◌, ◌<◌, ℤ, pos, negsuc, ◌*ℤ◌, ◌≤ℤ◌, ◌<ℤ◌, Bool, List, [], ◌∷◌, length, map, All, sym, ap, subst, inl, inr, arith}
use Rattle.std.specs.Int.{is_positive}
use Rattle.std.specs.List.{zip}
use Rattle.std.proofs.lemmas.Int.{ints}
use Rattle.std.proofs.lemmas.Bool.{cases_Bool}
use Rattle.std.proofs.lemmas.List.{length-map}
use Rattle.std.proofs.lemmas.List.Elements.{All-cons, All-head, All-tail, All-filter, filter_passes}
use Rattle.mill_model.specs.declared.limits.Limits.{Limits}
use Rattle.mill_model.specs.Mill.{Mill}
use Rattle.mill_model.specs.Columns.{Column, IsLegalColumn}
use Rattle.mill_model.specs.Decisions.{Decision}
use Rattle.mill_model.specs.Covers.{IsCover}
use Rattle.mill_model.proofs.Signed.{mul_lt_pos, mul_zero}
use Rattle.std.proofs.Math.IntN.{*ℤ_comm}
use Rattle.slab_frac.specs.Fraction.{Fraction}
use Rattle.slab_frac.specs.Scaled.{IsScaled}
use Rattle.slab_master.specs.Given.{Given}
use Rattle.slab_master.specs.Spread.{IsSpread}
use Rattle.slab_columns.specs.declared.column.ColId.{ColId}
use Rattle.slab_relax.specs.Rows.{rows_of, entries_of}
use Rattle.slab_relax.specs.PoolCovers.{multipliers, column_at, parts_by, parts_of, IsPoolCover}
use Rattle.slab_relax.specs.Masters.{allowed_of, master_by, used_of, AreAllowedIds}
use Rattle.slab_relax.proofs.Steps.{are_allowed}
use Rattle.slab_relax.proofs.Covering.{cover_of}
use Rattle.slab_relax.proofs.Using.{IsUsable, IsFilled, above_is, filled, without_them}

-- a multiplier for each number
pub ids_count : (m : Mill) (limits : Limits) (decisions : List Decision) (columns : List Column) (ids : List ColId) (xs : List Fraction) → AreAllowedIds decisions columns ids → IsSpread (rows_of m limits) (map (entries_of m limits) (allowed_of decisions columns)) xs → length xs ≡ length ids
ids_count m limits decisions columns ids xs numbers spread = omega (arith, spread.count, length-map (allowed_of decisions columns) (entries_of m limits), ap length numbers.named, length-map ids (column_at columns))

-- ---- multipliers that aren't negative

not_below : (k num : ℤ) (den d : ℕ) → pos 0 ≤ℤ k → 0 < d → k *ℤ pos den ≡ num *ℤ pos d → pos 0 ≤ℤ num
not_below k (pos n) den d h l e = omega (arith, ints)
not_below (negsuc k) (negsuc n) den d h l e = absurd (omega (arith, ints))
not_below (pos k) (negsuc n) den d h l e =
    let low : (pos d *ℤ negsuc n) <ℤ (pos d *ℤ pos 0) = mul_lt_pos d (negsuc n) (pos 0) l (omega (arith, ints)) in
    let high : pos k *ℤ pos den ≡ pos (k * den) = omega (arith, ints) in
    absurd (omega (arith, ints, low, high, e, *ℤ_comm (negsuc n) (pos d), mul_zero (pos d)))

pub are_usable : (d : ℕ) (xs : List Fraction) (ks : List ℤ) → 0 < d → IsScaled d xs ks → All (λ k. pos 0 ≤ℤ k) ks → All IsUsable xs
are_usable d [] [] l s signs = λ j e h. absurd (omega arith)
are_usable d [] (k ∷ ks) l s signs = absurd s
are_usable d (x ∷ xs) [] l s signs = absurd s
are_usable d (x ∷ xs) (k ∷ ks) l s signs = All-cons IsUsable x xs (s.0.0, not_below k x.num x.den d (All-head (λ k. pos 0 ≤ℤ k) k ks signs) l s.0.1) (are_usable d xs ks l s.1 (All-tail (λ k. pos 0 ≤ℤ k) k ks signs))

-- ---- whole multipliers of the columns that are used

record IsPicked (d : ℕ) (ids : List ColId) (xs : List Fraction) : Type 0 where
  picked : List ℤ
  scaled : IsScaled d (multipliers (used_of ids xs)) picked

picks : (d : ℕ) (ids : List ColId) (xs : List Fraction) (ks : List ℤ) → IsScaled d xs ks → IsPicked d ids xs
picks d [] xs ks s = record { picked = []; scaled = tt }
picks d (id ∷ ids) [] ks s = record { picked = []; scaled = tt }
picks d (id ∷ ids) (x ∷ xs) [] s = absurd s
picks d (id ∷ ids) (x ∷ xs) (k ∷ ks) s =
    let rest = picks d ids xs ks s.1 in
    elim (cases_Bool (is_positive x.num)) [
      | inl e ↦ record { picked = k ∷ rest.picked; scaled = rw e (s.0, rest.scaled) }
      | inr e ↦ record { picked = rest.picked; scaled = rw e rest.scaled }
    ]

-- ---- the numbers of the columns

zip_all : (P : ColId → Type 0) (ids : List ColId) (xs : List Fraction) → All P ids → All (λ (part : ColId × Fraction). P part.0) (zip ids xs)
zip_all P [] xs h = λ j e l. absurd (omega arith)
zip_all P (id ∷ ids) [] h = λ j e l. absurd (omega arith)
zip_all P (id ∷ ids) (x ∷ xs) h = All-cons (λ (part : ColId × Fraction). P part.0) (id, x) (zip ids xs) (All-head P id ids h) (zip_all P ids xs (All-tail P id ids h))

pub count_is : (m : Mill) (limits : Limits) (decisions : List Decision) (columns : List Column) (ids : List ColId) (given : Given) (xs : List Fraction) → given ≡ master_by m limits decisions columns → AreAllowedIds decisions columns ids → IsSpread given.rows given.columns xs → length xs ≡ length ids
count_is m limits decisions columns ids given xs is numbers spread = ids_count m limits decisions columns ids xs numbers (subst (λ (g : Given). IsSpread g.rows g.columns xs) is spread)

pub pool_cover : (m : Mill) (limits : Limits) (decisions : List Decision) (columns : List Column) (ids : List ColId) (xs : List Fraction) → All (IsLegalColumn m) columns → AreAllowedIds decisions columns ids
    → IsSpread (rows_of m limits) (map (entries_of m limits) (allowed_of decisions columns)) xs → IsPoolCover m limits decisions columns (used_of ids xs)
pool_cover m limits decisions columns ids xs legal numbers spread = record {
  within = All-filter used within (zip ids xs) (zip_all (λ (id : ColId). id.0 < length columns) ids xs numbers.within);
  above = λ j e l. above_is _ (filter_passes used (zip ids xs) j e l);
  denominator = spread.denominator;
  wholes = (picks spread.denominator ids xs spread.multipliers spread.scaled).picked;
  positive = spread.positive;
  scaled = (picks spread.denominator ids xs spread.multipliers spread.scaled).scaled;
  every = λ d ks above over. each d ks above over;
}
  where
    used : ColId × Fraction → Bool
    used part = is_positive part.1.num

    within : ColId × Fraction → Type 0
    within part = part.0.0 < length columns

    usable : All IsUsable xs
    usable = are_usable spread.denominator xs spread.multipliers spread.positive spread.scaled (spread.every spread.denominator spread.multipliers spread.positive spread.scaled).not_negative

    each : (d : ℕ) (ks : List ℤ) → 0 < d → IsScaled d (multipliers (used_of ids xs)) ks → IsCover m limits decisions d (parts_of columns (used_of ids xs) ks)
    each d ks above over =
        let fill : IsFilled m decisions columns d ids xs ks = filled m decisions columns d ids xs ks (ids_count m limits decisions columns ids xs numbers spread) usable over in
        let whole : IsCover m limits decisions d (parts_by (allowed_of decisions columns) fill.all) = cover_of m limits decisions (allowed_of decisions columns) d fill.all above (are_allowed m decisions columns legal) (spread.every d fill.all above fill.scaled) in
        without_them m limits decisions columns d ids xs ks fill (subst (λ (cs : List Column). IsCover m limits decisions d (parts_by cs fill.all)) (sym numbers.named) whole)
