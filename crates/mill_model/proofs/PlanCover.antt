-- A legal plan is a cover of denominator 1, so prices that refute the limits exclude it.
use Rattle.std.proofs.Common.{◌≡◌, ℕ, zero, suc, ◌+◌, ◌*◌, ◌<◌, ◌≤◌, ℤ, pos, ◌*ℤ◌, ◌≤ℤ◌, true, cond, eqb, List, [], ◌∷◌, map, length, get_or, slice_index, slice_index_or, sum_by, count_by, sym, refl, ap, ◌∙◌, inl, inr, arith, Option, Some, None}
use Rattle.std.specs.List.{AllByRecursion, range_with_len}
use Rattle.std.proofs.lemmas.Int.{ints}
use Rattle.std.proofs.lemmas.List.Sums.{sum_by-cons}
use Rattle.std.proofs.lemmas.Bool.{cond-true, cond-false, eq-eqb, ne_eqb, cases_eq}
use Rattle.std.proofs.lemmas.List.FromFn.{length-map-range_with_len}
use Rattle.std.proofs.Math.IntN.{*ℤ_comm}
use Rattle.mill_model.specs.declared.order.Order.{Order}
use Rattle.mill_model.specs.declared.kind.Kind.TheVariants.{New}
use Rattle.mill_model.specs.declared.limits.Limits.{Limits}
use Rattle.mill_model.specs.Mill.{Mill}
use Rattle.mill_model.specs.Plans.{Plan, slab, IsLegal, is_new, sums_of}
use Rattle.mill_model.specs.Prices.{Prices, Refutes}
use Rattle.mill_model.specs.SignedSums.{total_by, total_below}
use Rattle.mill_model.specs.Columns.{has, is_old, IsLegalColumn, loss_of, load, order_at, size_of}
use Rattle.mill_model.specs.Decisions.{Decision, IsAsk, PlanAgrees, column_agrees}
use Rattle.mill_model.specs.Limits.{AtMost, IsWithin}
use Rattle.mill_model.specs.Covers.{Part, times, IsCover}
use Rattle.mill_model.proofs.Signed.{total_by-pos, total_by_at, total_below-ext, double_count, total_by-same, total_by-le, total_by-ones, total_below-ones}
use Rattle.mill_model.proofs.Duality.{column_total, no_cover_and_prices}
use Rattle.mill_model.proofs.Slabs.{places_rise, has_order, on_a_slab, slabs_agree}

-- ---- sums over the numbers of a range

all_range : {X : Type 0} (P : X → Type 0) (f : ℕ → X) (a n : ℕ) → ((k : ℕ) → k < a + n → P (f k)) → AllByRecursion P (map f (range_with_len a n))
all_range P f a zero h = tt
all_range P f a (suc n) h = (h a (omega arith), all_range P f (a + 1) n (λ k l. h k (omega arith)))

sum_range : {X Y : Type 0} (g : X → ℕ) (f : ℕ → X) (h : Y → ℕ) (a : ℕ) (ys : List Y) (d : Y) → ((k j : ℕ) → j ≡ a + k → k < length ys → g (f j) ≡ h (get_or ys k d)) → sum_by g (map f (range_with_len a (length ys))) ≡ sum_by h ys
sum_range g f h a [] d e = refl
sum_range g f h a (y ∷ ys) d e =
    omega (arith, sum_by-cons g (f a) (map f (range_with_len (a + 1) (length ys))), sum_by-cons h y ys, e 0 a (omega arith) (omega arith), sum_range g f h (a + 1) ys d (λ k j q l. e (suc k) j (omega arith) (omega arith)))

none_range : {X : Type 0} (g : X → ℕ) (f : ℕ → X) (t a n : ℕ) → t < a → ((k : ℕ) → k < a + n → g (f k) ≡ cond (eqb t k) 1 0) → sum_by g (map f (range_with_len a n)) ≡ 0
none_range g f t a zero l e = refl
none_range g f t a (suc n) l e =
    omega (arith, sum_by-cons g (f a) (map f (range_with_len (a + 1) n)), e a (omega arith), cond-false {A = ℕ} (eqb t a) 1 0 (ne_eqb t a (λ q. omega arith)), none_range g f t (a + 1) n (omega arith) (λ k h. e k (omega arith)))

one_range : {X : Type 0} (g : X → ℕ) (f : ℕ → X) (t a n : ℕ) → a ≤ t → t < a + n → ((k : ℕ) → k < a + n → g (f k) ≡ cond (eqb t k) 1 0) → sum_by g (map f (range_with_len a n)) ≡ 1
one_range g f t a zero l u e = absurd (omega arith)
one_range g f t a (suc n) l u e = elim (cases_eq t a) [
  | inl q ↦ omega (arith, sum_by-cons g (f a) (map f (range_with_len (a + 1) n)), e a (omega arith), cond-true {A = ℕ} (eqb t a) 1 0 (eq-eqb t a q), none_range g f t (a + 1) n (omega arith) (λ k h. e k (omega arith)))
  | inr q ↦ omega (arith, sum_by-cons g (f a) (map f (range_with_len (a + 1) n)), e a (omega arith), cond-false {A = ℕ} (eqb t a) 1 0 (ne_eqb t a q), one_range g f t (a + 1) n (omega arith) (omega arith) (λ k h. e k (omega arith)))
]

sum_by-add : {X : Type 0} (f g h : X → ℕ) (P : X → Type 0) → ((x : X) → P x → f x + g x ≡ h x) → (xs : List X) → AllByRecursion P xs → sum_by f xs + sum_by g xs ≡ sum_by h xs
sum_by-add f g h P e [] a = refl
sum_by-add f g h P e (x ∷ xs) a = omega (arith, sum_by-cons f x xs, sum_by-cons g x xs, sum_by-cons h x xs, e x a.0, sum_by-add f g h P e xs a.1)

-- ---- the slabs of a plan, each once

pub parts_of : Plan → List Part
parts_of p = map (λ k. (slab p k, 1)) (range_with_len 0 (length p.kinds))

module _ (m : Mill) (p : Plan) (legal : IsLegal m p) where
  abbrev parts : List Part
  parts = map (λ k. (slab p k, 1)) (range_with_len 0 (length p.kinds))

  legal_slab : (k : ℕ) → k < length p.kinds → IsLegalColumn m (slab p k)
  legal_slab k h = record { fits = legal.fits k h; rises = places_rise k 0 (length m.orders) p.place (omega (arith, legal.places)) }

  -- each order lies on one slab
  each_once : (o : ℕ) → o < length m.orders → sum_by (λ (part : Part). cond (has part.0.orders o) part.1 0) parts ≡ 1
  each_once o h =
      one_range (λ (part : Part). cond (has part.0.orders o) part.1 0) (λ k. (slab p k, 1)) (slice_index p.place o) 0 (length p.kinds) (omega arith) (omega (arith, on_a_slab m p legal o h))
      (λ k l. ap (λ b. cond b 1 0) (has_order m p legal k o h))

  count_is : sum_by (λ (part : Part). cond (is_new part.0.kind) part.1 0) parts ≡ count_by is_new p.kinds
  count_is = sum_range (λ (part : Part). cond (is_new part.0.kind) part.1 0) (λ k. (slab p k, 1)) (λ k. cond (is_new k) 1 0) 0 p.kinds (New 0) (λ k j e l. ap (λ i. cond (is_new (slice_index_or p.kinds i (New 0))) 1 0) (omega arith))

  old_is : (s : ℕ) → sum_by (λ (part : Part). cond (is_old s part.0.kind) part.1 0) parts ≡ count_by (is_old s) p.kinds
  old_is s = sum_range (λ (part : Part). cond (is_old s part.0.kind) part.1 0) (λ k. (slab p k, 1)) (λ k. cond (is_old s k) 1 0) 0 p.kinds (New 0) (λ k j e l. ap (λ i. cond (is_old s (slice_index_or p.kinds i (New 0))) 1 0) (omega arith))

  sizes_are : sum_by (λ (part : Part). size_of m part.0.kind) parts ≡ sum_by (size_of m) p.kinds
  sizes_are = sum_range (λ (part : Part). size_of m part.0.kind) (λ k. (slab p k, 1)) (size_of m) 0 p.kinds (New 0) (λ k j e l. ap (λ i. size_of m (slice_index_or p.kinds i (New 0))) (omega arith))

  abbrev weight_of : ℕ → ℤ
  weight_of o = pos (order_at m o).weight

  -- the loads of the slabs sum to the weights of the orders
  loads_are : sum_by (λ (part : Part). load m part.0.orders) parts ≡ sum_by (λ order. order.weight) m.orders
  loads_are =
      let by_slab : pos (sum_by (λ (part : Part). load m part.0.orders) parts) ≡ total_by (λ (part : Part). pos part.1 *ℤ total_below (length m.orders) (λ o. cond (has part.0.orders o) (weight_of o) (pos 0))) parts =
      sym (total_by-pos (λ (part : Part). load m part.0.orders) parts) ∙ total_by-same Once (λ part. pos (load m part.0.orders)) (λ part. pos part.1 *ℤ total_below (length m.orders) (λ o. cond (has part.0.orders o) (weight_of o) (pos 0))) (λ part h. load_is part h) parts all_once in
      let by_order : total_below (length m.orders) (λ o. weight_of o *ℤ pos (sum_by (λ (part : Part). cond (has part.0.orders o) part.1 0) parts)) ≡ total_below (length m.orders) weight_of =
      total_below-ext (length m.orders) (λ o. weight_of o *ℤ pos (sum_by (λ (part : Part). cond (has part.0.orders o) part.1 0) parts)) weight_of (λ o h. ap (λ n. weight_of o *ℤ pos n) (each_once o h) ∙ *ℤ_comm (weight_of o) (pos 1) ∙ one_times (weight_of o)) in
      let swapped : total_below (length m.orders) (λ o. weight_of o *ℤ pos (sum_by (λ (part : Part). cond (has part.0.orders o) part.1 0) parts)) ≡ total_by (λ (part : Part). pos part.1 *ℤ total_below (length m.orders) (λ o. cond (has part.0.orders o) (weight_of o) (pos 0))) parts =
      double_count (length m.orders) weight_of (λ o (part : Part). has part.0.orders o) (λ (part : Part). part.1) parts in
      let whole : total_below (length m.orders) weight_of ≡ pos (sum_by (λ order. order.weight) m.orders) =
      sym (total_by_at (λ (order : Order). pos order.weight) (record { weight = 0; colour = 0 }) m.orders) ∙ total_by-pos (λ (order : Order). order.weight) m.orders in
      omega (arith, ints, by_slab, by_order, swapped, whole)
    where
      one_times : (z : ℤ) → pos 1 *ℤ z ≡ z
      one_times z = omega (arith, ints)

      Once : Part → Type 0
      Once part = IsLegalColumn m part.0 × (part.1 ≡ 1)

      all_once : AllByRecursion Once parts
      all_once = all_range Once (λ k. (slab p k, 1)) 0 (length p.kinds) (λ k h. (legal_slab k (omega arith), refl))

      load_is : (part : Part) → Once part → pos (load m part.0.orders) ≡ pos part.1 *ℤ total_below (length m.orders) (λ o. cond (has part.0.orders o) (weight_of o) (pos 0))
      load_is part h = sym (total_by-pos (λ o. (order_at m o).weight) part.0.orders) ∙ sym (column_total 0 (length m.orders) part.0.orders weight_of h.0.rises) ∙ sym (one_times _) ∙ ap (λ n. pos n *ℤ total_below (length m.orders) (λ o. cond (has part.0.orders o) (weight_of o) (pos 0))) (sym h.1)

  loss_is : sum_by (λ (part : Part). part.1 * loss_of m part.0) parts ≡ (sums_of m p).loss
  loss_is =
      let e : sum_by (λ (part : Part). part.1 * loss_of m part.0) parts + sum_by (λ (part : Part). load m part.0.orders) parts ≡ sum_by (λ (part : Part). size_of m part.0.kind) parts =
      sum_by-add (λ (part : Part). part.1 * loss_of m part.0) (λ (part : Part). load m part.0.orders) (λ (part : Part). size_of m part.0.kind) Once (λ part h. split part h) parts (all_range Once (λ k. (slab p k, 1)) 0 (length p.kinds) (λ k h. (legal_slab k (omega arith), refl))) in
      omega (arith, e, loads_are, sizes_are)
    where
      Once : Part → Type 0
      Once part = IsLegalColumn m part.0 × (part.1 ≡ 1)

      split : (part : Part) → Once part → part.1 * loss_of m part.0 + load m part.0.orders ≡ size_of m part.0.kind
      split part h = ap (λ n. n * loss_of m part.0 + load m part.0.orders) h.1 ∙ omega (arith, h.0.fits.weight)

  pub plan_is_cover : (limits : Limits) (decisions : List Decision) → AllByRecursion (λ (d : Decision). IsAsk m d.0) decisions → PlanAgrees decisions p → IsWithin (sums_of m p) limits → IsCover m limits decisions 1 parts
  plan_is_cover limits decisions asks agree within = record {
    denominator = omega arith;
    legal = all_range (λ (part : Part). IsLegalColumn m part.0 × (column_agrees decisions part.0 ≡ true)) (λ k. (slab p k, 1)) 0 (length p.kinds) (λ k h. (legal_slab k (omega arith), slabs_agree m p legal decisions asks agree k (omega arith)));
    orders = each_once;
    yard = λ s h. omega (arith, old_is s, legal.once s);
    loss = rw loss_is (once limits.loss (sums_of m p).loss within.loss);
    count = rw count_is (once limits.count (count_by is_new p.kinds) within.count);
  }
    where
      once : (limit : Option ℤ) (n : ℕ) → AtMost (Some (pos n)) limit → AtMost (Some (pos n)) (times 1 limit)
      once None n h = tt
      once (Some a) n h = omega (arith, ints)

  -- no plan has more slabs than orders, since each slab has one
  pub slabs_at_most_orders : length p.kinds ≤ length m.orders
  slabs_at_most_orders =
      let lengths : total_below (length m.orders) (λ o. pos 1 *ℤ pos (sum_by (λ (part : Part). cond (has part.0.orders o) part.1 0) parts)) ≡ total_by (λ (part : Part). pos part.1 *ℤ total_below (length m.orders) (λ o. cond (has part.0.orders o) (pos 1) (pos 0))) parts =
      double_count (length m.orders) (λ o. pos 1) (λ o (part : Part). has part.0.orders o) (λ (part : Part). part.1) parts in
      let ones : total_below (length m.orders) (λ o. pos 1 *ℤ pos (sum_by (λ (part : Part). cond (has part.0.orders o) part.1 0) parts)) ≡ pos (length m.orders) =
      total_below-ext (length m.orders) (λ o. pos 1 *ℤ pos (sum_by (λ (part : Part). cond (has part.0.orders o) part.1 0) parts)) (λ o. pos 1) (λ o h. ap (λ n. pos 1 *ℤ pos n) (each_once o h)) ∙ total_below-ones (length m.orders) in
      let least : total_by (λ (part : Part). pos 1) parts ≤ℤ total_by (λ (part : Part). pos part.1 *ℤ total_below (length m.orders) (λ o. cond (has part.0.orders o) (pos 1) (pos 0))) parts =
      total_by-le Once (λ part. pos 1) (λ part. pos part.1 *ℤ total_below (length m.orders) (λ o. cond (has part.0.orders o) (pos 1) (pos 0))) (λ part h. long part h) parts (all_range Once (λ k. (slab p k, 1)) 0 (length p.kinds) (λ k h. (legal_slab k (omega arith), refl))) in
      omega (arith, ints, lengths, ones, least, total_by-ones parts, length-map-range_with_len {X = Part} (λ k. (slab p k, 1)) 0 (length p.kinds))
    where
      Once : Part → Type 0
      Once part = IsLegalColumn m part.0 × (part.1 ≡ 1)

      long : (part : Part) → Once part → pos 1 ≤ℤ (pos part.1 *ℤ total_below (length m.orders) (λ o. cond (has part.0.orders o) (pos 1) (pos 0)))
      long part h = rw h.1 (omega (arith, ints, column_total 0 (length m.orders) part.0.orders (λ _. pos 1) h.0.rises, total_by-ones part.0.orders, h.0.fits.some))

  -- the slabs hold the orders, so the loss is no rounded number
  pub weights_within_sizes : sum_by (λ order. order.weight) m.orders ≤ sum_by (size_of m) p.kinds
  weights_within_sizes =
      let e : sum_by (λ (part : Part). part.1 * loss_of m part.0) parts + sum_by (λ (part : Part). load m part.0.orders) parts ≡ sum_by (λ (part : Part). size_of m part.0.kind) parts =
      sum_by-add (λ (part : Part). part.1 * loss_of m part.0) (λ (part : Part). load m part.0.orders) (λ (part : Part). size_of m part.0.kind) Once (λ part h. split part h) parts (all_range Once (λ k. (slab p k, 1)) 0 (length p.kinds) (λ k h. (legal_slab k (omega arith), refl))) in
      omega (arith, e, loads_are, sizes_are)
    where
      Once : Part → Type 0
      Once part = IsLegalColumn m part.0 × (part.1 ≡ 1)

      split : (part : Part) → Once part → part.1 * loss_of m part.0 + load m part.0.orders ≡ size_of m part.0.kind
      split part h = ap (λ n. n * loss_of m part.0 + load m part.0.orders) h.1 ∙ omega (arith, h.0.fits.weight)

-- prices that refute the limits under the decisions exclude each legal plan that agrees
pub refuted : (m : Mill) (limits : Limits) (decisions : List Decision) (prices : Prices) (p : Plan) → AllByRecursion (λ (d : Decision). IsAsk m d.0) decisions
    → Refutes m limits decisions prices → IsLegal m p → PlanAgrees decisions p → IsWithin (sums_of m p) limits → ⊥
refuted m limits decisions prices p asks refutes legal agree within = no_cover_and_prices m limits decisions prices 1 _ refutes (plan_is_cover m p legal limits decisions asks agree within)
