-- The first-fit plan is legal, in order, and within the limit.
use Rattle.std.proofs.Common.{◌≡◌, ℕ, ◌+◌, ◌<◌, ◌≤◌, ℤ, pos, negsuc, Bool, true, cond, ◌&&◌, eqb, ltb, leb, List, [], ◌∷◌, ◌++◌, length, get_or, set, sum_by, All, Option, Some, None, arith, ap}
use Rattle.std.specs.Option.{option_map, option_or}
use Rattle.std.specs.List.{find, fold, position, range_with_len}
use Rattle.std.proofs.lemmas.Bool.{false≢true}
use Rattle.std.proofs.lemmas.Bool.Decides.{nat_tests}
use Rattle.std.proofs.lemmas.Int.{ints}
use Rattle.std.proofs.lemmas.List.{length-set, length_push}
use Rattle.std.proofs.lemmas.Option.{same_Some, option_and_then_some}
use Rattle.std.proofs.lemmas.List.Sums.{sum_by-cons}
use Rattle.std.proofs.lemmas.List.Elements.{All-nil, All-head, All-tail}
use Rattle.mill_model.specs.declared.kind.Kind.{Kind}
use Rattle.mill_model.specs.declared.kind.Kind.TheVariants.{New}
use Rattle.mill_model.specs.Mill.{Mill, IsInLimits}
use Rattle.mill_model.specs.Limits.{AtMost}
use Rattle.mill_model.specs.Starts.{IsStart}
use Rattle.mill_model.specs.Columns.{Column}
use Rattle.slab_filling.specs.Lists.{put_before}
use Rattle.slab_filling.specs.Slabs.{empty, with_order, takes}
use Rattle.slab_filling.specs.Placing.{kinds_to_open}
use Rattle.slab_filling.specs.Closing.{plan_of, closed_slabs}
use Rattle.slab_start.specs.FirstFit.{is_lighter, by_weight, can_start, on_opened, place_order, place_orders}
use Rattle.slab_filling.proofs.PutBefore.{sum_by-put, All-put, length-put}
use Rattle.slab_filling.proofs.Ranges.{length-range, get_or-range}
use Rattle.slab_filling.proofs.Counts.{one, count-range}
use Rattle.slab_filling.proofs.Filled.{IsOpenSlab, AreFilled}
use Rattle.slab_filling.proofs.Closed.{close_all, start}
use Rattle.slab_start.proofs.Placed.{put_orders}

pub sum_by-weight : (m : Mill) (f : ℕ → ℕ) (orders numbers : List ℕ) → sum_by f (fold (λ os o. put_before (is_lighter m o) o os) orders numbers) ≡ sum_by f orders + sum_by f numbers
sum_by-weight m f orders [] = omega arith
sum_by-weight m f orders (o ∷ numbers) = omega (arith, sum_by-weight m f (put_before (is_lighter m o) o orders) numbers, sum_by-put f (is_lighter m o) o orders, sum_by-cons f o numbers)

pub All-weight : (m : Mill) (P : ℕ → Type 0) (orders numbers : List ℕ) → All P orders → All P numbers → All P (fold (λ os o. put_before (is_lighter m o) o os) orders numbers)
All-weight m P orders [] done left = done
All-weight m P orders (o ∷ numbers) done left = All-weight m P (put_before (is_lighter m o) o orders) numbers (All-put P (is_lighter m o) o orders (All-head P o numbers left) done) (All-tail P o numbers left)

nothing_yet : (limit : Option ℤ) → can_start limit ≡ true → AtMost (Some (pos 0)) limit
nothing_yet None e = tt
nothing_yet (Some (pos b)) e = omega (arith, ints)
nothing_yet (Some (negsuc b)) e = absurd (false≢true e)

pub filled_first : (m : Mill) (limit : Option ℤ) → can_start limit ≡ true → AreFilled m limit (by_weight m) []
filled_first m limit can = record {
  each = All-nil (IsOpenSlab m);
  once = λ s. omega arith;
  news = nothing_yet limit can;
  covered = λ o h. omega (arith, sum_by-weight m (λ k. cond (eqb k o) 1 0) [] (range_with_len 0 (length m.orders)), count-range o 0 (length m.orders), one (leb 0 o && ltb o (0 + length m.orders)) (grind (arith, nat_tests)));
  within = All-weight m (λ o. o < length m.orders) [] (range_with_len 0 (length m.orders)) (All-nil (λ o. o < length m.orders)) (λ k d h. omega (arith, get_or-range 0 (length m.orders) k d (omega (arith, length-range 0 (length m.orders))), length-range 0 (length m.orders)));
}

pub first_fit_starts : (m : Mill) (limit : Option ℤ) (filled : List Column) → IsInLimits m → can_start limit ≡ true → place_orders m limit (by_weight m) [] ≡ Some filled → IsStart m limit (plan_of (length m.orders) (closed_slabs m filled))
first_fit_starts m limit filled limits can e = start m limit (closed_slabs m filled) (close_all m limit filled limits (put_orders m limit (by_weight m) [] filled (filled_first m limit can) e))

-- ---- there are no more slabs than orders

length-weight : (m : Mill) (orders numbers : List ℕ) → length (fold (λ os o. put_before (is_lighter m o) o os) orders numbers) ≡ length orders + length numbers
length-weight m orders [] = omega arith
length-weight m orders (o ∷ numbers) = omega (arith, length-weight m (put_before (is_lighter m o) o orders) numbers, length-put (is_lighter m o) o orders)

pub length-by_weight : (m : Mill) → length (by_weight m) ≡ length m.orders
length-by_weight m = omega (arith, length-weight m [] (range_with_len 0 (length m.orders)), length-range 0 (length m.orders))

one_slab_more : (m : Mill) (limit : Option ℤ) (o : ℕ) (slabs next : List Column) → place_order m limit o slabs ≡ Some next → length next ≤ length slabs + 1
one_slab_more m limit o slabs next e = by_first (position (takes m o) slabs) e
  where
    by_opened : (found : Option Kind) → option_map (λ kind. slabs ++ with_order o (empty kind) ∷ []) found ≡ Some next → length next ≤ length slabs + 1
    by_opened None q = cc
    by_opened (Some kind) q = omega (arith, ap length (same_Some (slabs ++ with_order o (empty kind) ∷ []) next q), length_push slabs (with_order o (empty kind)))

    by_first : (found : Option ℕ) → option_or (option_map (λ k. set slabs k (with_order o (get_or slabs k (empty (New 0))))) found) (on_opened m limit o slabs) ≡ Some next → length next ≤ length slabs + 1
    by_first None q = by_opened (find (λ kind. takes m o (empty kind)) (kinds_to_open m limit slabs)) q
    by_first (Some k) q = omega (arith, ap length (same_Some (set slabs k (with_order o (get_or slabs k (empty (New 0))))) next q), length-set slabs k (with_order o (get_or slabs k (empty (New 0)))))

pub few_slabs : (m : Mill) (limit : Option ℤ) (orders : List ℕ) (slabs filled : List Column) → place_orders m limit orders slabs ≡ Some filled → length filled ≤ length slabs + length orders
few_slabs m limit [] slabs filled e = omega (arith, ap length (same_Some slabs filled e))
few_slabs m limit (o ∷ orders) slabs filled e =
    option_and_then_some (place_orders m limit orders) (place_order m limit o slabs) filled e
    (λ next p q. let more : length next ≤ length slabs + 1 = one_slab_more m limit o slabs next p in let rest : length filled ≤ length next + length orders = few_slabs m limit orders next filled q in omega arith)
