-- The least size that a table tells, and what closed slabs cost.
use Rattle.std.proofs.Common.{◌≡◌, ℕ, zero, suc, ◌+◌, ◌-◌, ◌<◌, ◌≤◌, leb, min, List, [], ◌∷◌, length, get_or, count_by, sum_by, All, Option, ℤ, refl, sym, ap, ap₂, ◌∙◌, inl, inr, arith}
use Rattle.std.specs.List.{filter, fold}
use Rattle.std.proofs.lemmas.Bool.{cases_Bool, lt-leb, le-leb}
use Rattle.std.proofs.lemmas.List.{length-map}
use Rattle.std.proofs.lemmas.List.Elements.{All-contains, All-head, All-tail}
use Rattle.mill_model.specs.Mill.{Mill, IsInLimits}
use Rattle.mill_model.specs.LeastSizes.{IsLeastSize}
use Rattle.mill_model.specs.Starts.{IsStart}
use Rattle.mill_model.specs.Plain.{greatest_size, total_weight}
use Rattle.mill_model.specs.Columns.{Column, size_of}
use Rattle.mill_model.specs.Plans.{is_new, sums_of}
use Rattle.mill_model.proofs.PlanCover.{slabs_at_most_orders}
use Rattle.slab_filling.specs.Slabs.{closed, is_later, least_size}
use Rattle.slab_filling.specs.Closing.{plan_of, put_closed, closed_slabs, plan_of_filled}
use Rattle.slab_filling.specs.Placing.{kinds_of}
use Rattle.slab_filling.proofs.Counts.{sum_by-map}
use Rattle.slab_filling.proofs.Closed.{length-closed, least_holds, sum_by-closed, counted-closed, same_new}
use Rattle.slab_filling.proofs.PutBefore.{length-put}
use Rattle.slab_lns.proofs.PlanSlabs.{counted_kinds}
use Rattle.slab_lns.proofs.Kept.{listed_at_most}

-- ---- the least size

down : (a : ℕ) (xs : List ℕ) → fold min a xs ≤ a
down a [] = omega arith
down a (x ∷ xs) = omega (arith, down (min a x) xs)

at_most_each : (weight a : ℕ) (sizes : List ℕ) (k d : ℕ) → k < length sizes → weight ≤ get_or sizes k d → fold min a (filter (leb weight) sizes) ≤ get_or sizes k d
at_most_each weight a [] k d h l = absurd (omega arith)
at_most_each weight a (u ∷ sizes) zero d h l = rw (le-leb weight u l) (omega (arith, down (min a u) (filter (leb weight) sizes)))
at_most_each weight a (u ∷ sizes) (suc k) d h l = elim (cases_Bool (leb weight u)) [
  | inl t ↦ rw t (at_most_each weight (min a u) sizes k d (omega arith) l)
  | inr f ↦ rw f (at_most_each weight a sizes k d (omega arith) l)
]

pub least_is : (m : Mill) (weight size : ℕ) → IsInLimits m → IsLeastSize m.sizes weight size → size ≡ least_size m weight
least_is m weight size limits it =
    let found = least_holds m weight limits (omega (arith, it.holds, listed_at_most m size it.listed)) in
    let below : least_size m weight ≤ size = All-contains (λ v. weight ≤ v → least_size m weight ≤ v) m.sizes size (λ k d h l. at_most_each weight (greatest_size m) m.sizes k d h l) it.listed it.holds in
    let above : size ≤ least_size m weight = All-contains (λ v. weight ≤ v → size ≤ v) m.sizes (least_size m weight) it.least found.0 found.1 in
    omega arith

none_left : (weight : ℕ) (sizes : List ℕ) → All (λ size. size < weight) sizes → filter (leb weight) sizes ≡ []
none_left weight [] all = refl
none_left weight (u ∷ sizes) all = rw (lt-leb weight u (All-head (λ size. size < weight) u sizes all)) (none_left weight sizes (All-tail (λ size. size < weight) u sizes all))

pub none_holds : (m : Mill) (weight : ℕ) → All (λ size. size < weight) m.sizes → greatest_size m ≡ least_size m weight
none_holds m weight all = ap (fold min (greatest_size m)) (sym (none_left weight m.sizes all))

-- ---- the sums of closed slabs

pub sums_when_closed : (m : Mill) (slabs : List Column)
    → sums_of m (plan_of_filled m slabs) ≡ record { loss = sum_by (λ (c : Column). size_of m (closed m c).kind) slabs - total_weight m; count = count_by is_new (kinds_of slabs) }
sums_when_closed m slabs = ap₂ (λ (l n : ℕ). record { loss = l - total_weight m; count = n }) sizes news
  where
    sizes : sum_by (size_of m) (kinds_of (closed_slabs m slabs)) ≡ sum_by (λ (c : Column). size_of m (closed m c).kind) slabs
    sizes = sum_by-map (size_of m) (λ (c : Column). c.kind) (closed_slabs m slabs) ∙ sum_by-closed m (λ (c : Column). size_of m c.kind) [] slabs ∙ omega arith

    news : count_by is_new (kinds_of (closed_slabs m slabs)) ≡ count_by is_new (kinds_of slabs)
    news = counted_kinds is_new (closed_slabs m slabs) ∙ counted-closed m is_new slabs (same_new m) ∙ sym (counted_kinds is_new slabs)

-- ---- there are no more slabs than orders

pub few_at : (m : Mill) (limit : Option ℤ) (slabs : List Column) → IsInLimits m → IsStart m limit (plan_of (length m.orders) slabs) → length slabs ≤ 250
few_at m limit slabs limits s = omega (arith, slabs_at_most_orders m (plan_of (length m.orders) slabs) s.legal, length-map slabs (λ (c : Column). c.kind), limits.order_count)

pub few_made : (m : Mill) (limit : Option ℤ) (slabs : List Column) → IsInLimits m → IsStart m limit (plan_of_filled m slabs) → length slabs ≤ 250
few_made m limit slabs limits s = omega (arith, few_at m limit (closed_slabs m slabs) limits s, length-closed m [] slabs)
