-- A cover's multipliers as whole numbers: each is above 0, and its column is one that counts.
use Rattle.std.proofs.Common.{◌≡◌, ℕ, zero, suc, ◌<◌, ◌≤◌, ℤ, pos, negsuc, ◌*ℤ◌, ◌≤ℤ◌, ◌<ℤ◌, Bool, true, false, cond, List, [], ◌∷◌, length, get_or, slice_index, All, Contains, refl, sym, ap, ◌∙◌, subst, inl, inr, arith, ◌⊎◌, Option}
use Rattle.std.specs.Prelude.{unsigned_abs}
use Rattle.std.specs.List.{sum_by}
use Rattle.std.proofs.lemmas.Int.{ints}
use Rattle.std.proofs.lemmas.Bool.{cases_lt}
use Rattle.std.proofs.lemmas.List.Sums.{sum_by-cons}
use Rattle.std.proofs.lemmas.List.Elements.{All-head, All-tail, All-cons, All-nil, Contains-get_or}
use Rattle.std.proofs.Math.IntN.{*ℤ_comm, zero-*ℤ}
use Rattle.mill_model.specs.declared.ask.Ask.{Ask}
use Rattle.mill_model.specs.declared.ask.Ask.TheVariants.{Pair, Put}
use Rattle.mill_model.specs.declared.limits.Limits.{Limits}
use Rattle.mill_model.specs.Mill.{Mill}
use Rattle.mill_model.specs.Columns.{Column, has, is_old}
use Rattle.mill_model.specs.Covers.{Part, IsCover}
use Rattle.mill_model.specs.Decisions.{Decision}
use Rattle.mill_model.proofs.Signed.{mul_lt_pos, mul_le_pos, mul_zero}
use Rattle.slab_columns.specs.declared.column.ColId.{ColId}
use Rattle.slab_frac.specs.Fraction.{Fraction}
use Rattle.slab_frac.specs.Scaled.{IsScaled}
use Rattle.slab_relax.specs.PoolCovers.{Parts, multipliers, column_at, parts_of, IsPoolCover}
use Rattle.slab_node.specs.Choices.{AreMultiples}
use Rattle.slab_node.specs.Grouped.{slab_of}
use Rattle.slab_node.specs.Shares.{AreTimes, CoversOrders, share, IsFractional, IsWhole}
use Rattle.slab_node.specs.Taken.{IsTaken}
use Rattle.slab_node.proofs.Choosing.{share_most, base_is}

sign : (k : ℤ) (den : ℕ) → pos 0 <ℤ (k *ℤ pos den) → pos 0 <ℤ k
sign (pos zero) den h = absurd (omega (arith, ints, h, zero-*ℤ (pos den)))
sign (pos (suc n)) den h = omega (arith, ints)
sign (negsuc n) den h =
    let most : (pos den *ℤ negsuc n) ≤ℤ (pos den *ℤ pos 0) = mul_le_pos den (negsuc n) (pos 0) (omega (arith, ints)) in
    absurd (omega (arith, ints, h, most, *ℤ_comm (negsuc n) (pos den), mul_zero (pos den)))

-- a multiple of what is above 0, by a number above 0, is above 0
above_zero : (k num : ℤ) (den d : ℕ) → 0 < d → pos 0 <ℤ num → k *ℤ pos den ≡ num *ℤ pos d → pos 0 <ℤ k
above_zero k num den d h a e =
    let low : (pos d *ℤ pos 0) <ℤ (pos d *ℤ num) = mul_lt_pos d (pos 0) num h a in
    sign k den (omega (arith, ints, low, e, mul_zero (pos d), *ℤ_comm num (pos d)))

pub times_above : (d : ℕ) (cover : Parts) (times : List ℤ) → 0 < d → All (λ (part : ColId × Fraction). pos 0 <ℤ part.1.num) cover → IsScaled d (multipliers cover) times → All (λ k. pos 0 <ℤ k) times
times_above d [] [] h above s = All-nil (λ k. pos 0 <ℤ k)
times_above d [] (k ∷ ks) h above s = absurd s
times_above d (part ∷ cover) [] h above s = absurd s
times_above d (part ∷ cover) (k ∷ ks) h above s =
    All-cons (λ k. pos 0 <ℤ k) k ks (above_zero k part.1.num part.1.den d h (All-head (λ (p : ColId × Fraction). pos 0 <ℤ p.1.num) part cover above) s.0.1)
    (times_above d cover ks h (All-tail (λ (p : ColId × Fraction). pos 0 <ℤ p.1.num) part cover above) s.1)

same_length : (d : ℕ) (cover : Parts) (times : List ℤ) → IsScaled d (multipliers cover) times → length times ≡ length cover
same_length d [] [] s = refl
same_length d [] (k ∷ ks) s = absurd s
same_length d (part ∷ cover) [] s = absurd s
same_length d (part ∷ cover) (k ∷ ks) s = ap suc (same_length d cover ks s.1)

pub are_times : (m : Mill) (limits : Limits) (decisions : List Decision) (columns : List Column) (cover : Parts) (whole : ℕ) (times : List ℤ) → IsPoolCover m limits decisions columns cover → AreMultiples cover whole times → AreTimes columns cover times
are_times m limits decisions columns cover whole times covers are = record {
  size = same_length whole cover times are.scaled;
  within = covers.within;
  above = times_above whole cover times are.positive covers.above are.scaled;
  range = are.range;
}

pub covers_by : (m : Mill) (limits : Limits) (decisions : List Decision) (columns : List Column) (cover : Parts) (whole : ℕ) (times : List ℤ) → IsPoolCover m limits decisions columns cover → AreMultiples cover whole times → IsCover m limits decisions whole (parts_of columns cover times)
covers_by m limits decisions columns cover whole times covers are = covers.every whole times are.positive are.scaled

-- ---- the part of a column

part_at : (columns : List Column) (cover : Parts) (times : List ℤ) (p : ℕ) (d : ColId × Fraction) (e : Part) → p < length cover → p < length times
    → (get_or (parts_of columns cover times) p e ≡ (column_at columns (get_or cover p d).0, unsigned_abs (get_or times p (pos 0)))) × (p < length (parts_of columns cover times))
part_at columns [] times p d e h l = absurd (omega arith)
part_at columns (x ∷ cover) [] p d e h l = absurd (omega arith)
part_at columns (x ∷ cover) (k ∷ times) zero d e h l = (refl, omega arith)
part_at columns (x ∷ cover) (k ∷ times) (suc p) d e h l = let rest = part_at columns cover times p d e (omega arith) (omega arith) in (rest.0, omega (arith, rest.1))

abs_above : (k : ℤ) → pos 0 <ℤ k → 0 < unsigned_abs k
abs_above (pos n) h = omega (arith, ints)
abs_above (negsuc n) h = absurd (omega (arith, ints))

-- the column of a part that has an order tells the order's group
pub taken_at : (columns : List Column) (cover : Parts) (times : List ℤ) (p : ℕ) (d : ColId × Fraction) (c : Column) (order head : ℕ) (slab : Option ℕ) → p < length cover → AreTimes columns cover times → column_at columns (get_or cover p d).0 ≡ c → has c.orders order ≡ true → head ≡ slice_index c.orders 0 → slab ≡ slab_of c.kind
    → IsTaken (parts_of columns cover times) order head slab
taken_at columns cover times p d c order head slab h are column mine head_is slab_is =
    let inside : p < length times = omega (arith, are.size) in
    let part : Part = (column_at columns (get_or cover p d).0, unsigned_abs (get_or times p (pos 0))) in
    let at = part_at columns cover times p d (column_at columns (get_or cover p d).0, unsigned_abs (get_or times p (pos 0))) h inside in
    record {
      part = (column_at columns (get_or cover p d).0, unsigned_abs (get_or times p (pos 0)));
      counts = record {
        there = subst (Contains (parts_of columns cover times)) at.0 (Contains-get_or (parts_of columns cover times) p (column_at columns (get_or cover p d).0, unsigned_abs (get_or times p (pos 0))) at.1);
        above = abs_above (get_or times p (pos 0)) (are.above p (pos 0) inside);
      };
      mine = ap (λ (x : Column). has x.orders order) column ∙ mine;
      head_is = head_is ∙ ap (λ (x : Column). slice_index x.orders 0) (sym column);
      slab_is = slab_is ∙ ap (λ (x : Column). slab_of x.kind) (sym column);
    }

-- where no column has an order, the cover leaves it out
lacks_sum : (columns : List Column) (order : ℕ) (cover : Parts) (times : List ℤ) → All (λ (part : ColId × Fraction). has (column_at columns part.0).orders order ≡ false) cover → sum_by (λ (part : Part). cond (has part.0.orders order) part.1 0) (parts_of columns cover times) ≡ 0
lacks_sum columns order [] times lacks = refl
lacks_sum columns order (x ∷ cover) [] lacks = refl
lacks_sum columns order (x ∷ cover) (k ∷ times) lacks =
    omega (
      arith,
      sum_by-cons (λ (part : Part). cond (has part.0.orders order) part.1 0) (column_at columns x.0, unsigned_abs k) (parts_of columns cover times),
      ap (λ (b : Bool). cond b (unsigned_abs k) 0) (All-head (λ (part : ColId × Fraction). has (column_at columns part.0).orders order ≡ false) x cover lacks),
      lacks_sum columns order cover times (All-tail (λ (part : ColId × Fraction). has (column_at columns part.0).orders order ≡ false) x cover lacks),
    )

pub none_lacks : (m : Mill) (columns : List Column) (cover : Parts) (times : List ℤ) (d order : ℕ) → CoversOrders m d (parts_of columns cover times) → order < length m.orders
    → All (λ (part : ColId × Fraction). has (column_at columns part.0).orders order ≡ false) cover → ⊥
none_lacks m columns cover times d order covers h lacks = omega (arith, lacks_sum columns order cover times lacks, covers.orders order h, covers.positive)

-- ---- a cover that answers no question in part

whole_by : (d : ℕ) (parts : List Part) (ask : Ask) → share parts ask ≤ d → (IsFractional d parts ask → ⊥) → (share parts ask ≡ 0) ⊎ (share parts ask ≡ d)
whole_by d parts ask most none = elim (cases_lt 0 (share parts ask)) [
  | inr nothing ↦ inl (omega arith)
  | inl some ↦ elim (cases_lt (share parts ask) d) [
    | inl less ↦ absurd (none (record { some = some; less = less }))
    | inr full ↦ inr (omega arith)
  ]
]

pub is_whole : (m : Mill) (d : ℕ) (parts : List Part) → CoversOrders m d parts
    → ((i j : ℕ) → i < j → j < length m.orders → IsFractional d parts (Pair i j) → ⊥) → ((o s : ℕ) → o < length m.orders → s < length m.yard → IsFractional d parts (Put o s) → ⊥) → IsWhole m d parts
is_whole m d parts cover pairs puts (Pair i j) asked =
    whole_by d parts (Pair i j) (omega (arith, share_most (λ c. has c.orders i) (λ c. has c.orders j) parts, base_is m d parts (Pair i j) cover asked)) (pairs i j asked.0 asked.1)
is_whole m d parts cover pairs puts (Put o s) asked =
    whole_by d parts (Put o s) (omega (arith, share_most (λ c. has c.orders o) (λ c. is_old s c.kind) parts, base_is m d parts (Put o s) cover asked)) (puts o s asked.0 asked.1)
