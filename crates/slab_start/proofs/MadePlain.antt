-- First fit fills each slab of a made mill.
use Rattle.std.proofs.Common.{◌≡◌, ℕ, zero, suc, ◌+◌, ◌-◌, ◌*◌, ◌/◌, ◌%◌, ◌<◌, ◌≤◌, Bool, cond, eqb, List, [], ◌∷◌, length, get_or, map, count_by, sum_by, All, refl, sym, ap, ◌∙◌, subst, inl, inr, arith}
use Rattle.std.specs.Option.{option_map}
use Rattle.std.specs.List.{range_with_len}
use Rattle.std.proofs.lemmas.Bool.{cases_eq, eq-eqb, ne_eqb, cond-true, cond-false}
use Rattle.std.proofs.lemmas.Int.{ints}
use Rattle.std.proofs.lemmas.List.{get_or-map, length-map}
use Rattle.std.proofs.lemmas.List.Sums.{sum_by-cons}
use Rattle.std.proofs.lemmas.List.Elements.{All-nil, All-head, All-tail}
use Rattle.mill_model.specs.declared.order.Order.{Order}
use Rattle.mill_model.specs.declared.kind.Kind.{Kind}
use Rattle.mill_model.specs.declared.kind.Kind.TheVariants.{New}
use Rattle.mill_model.specs.Plain.{total_weight}
use Rattle.mill_model.specs.Plans.{is_new}
use Rattle.mill_model.specs.Columns.{Column, load, size_of}
use Rattle.slab_filling.specs.Slabs.{closed, closed_kind, least_size}
use Rattle.slab_start.specs.FirstFit.{by_weight}
use Rattle.slab_filling.specs.Closing.{closed_slabs, plan_of}
use Rattle.slab_filling.specs.Placing.{kinds_of}
use Rattle.slab_start.specs.Made.{first_weight, made_weight, made_order, made_mill}
use Rattle.slab_start.specs.Plain.{IsMadePlain}
use Rattle.slab_filling.proofs.Ranges.{length-range, get_or-range, fold_range_more}
use Rattle.slab_filling.proofs.Counts.{none, sum_by-map}
use Rattle.slab_start.proofs.MadeLimits.{first_between, weight_between}
use Rattle.slab_start.proofs.Started.{sum_by-weight, All-weight}
use Rattle.slab_filling.proofs.Closed.{sum_by-closed, counted-closed, same_new}
use Rattle.slab_start.proofs.Halves.{weight, orders_of, falls_all, AreHalves, all_halves, all_full}

-- ---- sums over ranges

sum_range_more : (f : ℕ → ℕ) (k : ℕ) → sum_by f (range_with_len 0 (k + 1)) ≡ sum_by f (range_with_len 0 k) + f k
sum_range_more f k = fold_range_more (λ s i. s + f i) 0 k

sum_range_suc : (f : ℕ → ℕ) (k : ℕ) → sum_by f (range_with_len 0 (suc k)) ≡ sum_by f (range_with_len 0 k) + f k
sum_range_suc f k = let e : suc k ≡ k + 1 = omega arith in ap (λ i. sum_by f (range_with_len 0 i)) e ∙ sum_range_more f k

sum_range_same : (f g : ℕ → ℕ) (k : ℕ) → ((i : ℕ) → i < k → f i ≡ g i) → sum_by f (range_with_len 0 k) ≡ sum_by g (range_with_len 0 k)
sum_range_same f g zero same = refl
sum_range_same f g (suc k) same =
    let rest : sum_by f (range_with_len 0 k) ≡ sum_by g (range_with_len 0 k) = sum_range_same f g k (λ i h. same i (omega arith)) in
    let last : f k ≡ g k = same k (omega arith) in
    omega (arith, sum_range_suc f k, sum_range_suc g k)

sum_by_each : {X : Type 0} (f : X → ℕ) (v : ℕ) (xs : List X) → All (λ x. f x ≡ v) xs → sum_by f xs ≡ length xs * v
sum_by_each f v [] all = omega arith
sum_by_each f v (x ∷ xs) all =
    let first : f x ≡ v = All-head (λ y. f y ≡ v) x xs all in
    let rest : sum_by f xs ≡ length xs * v = sum_by_each f v xs (All-tail (λ y. f y ≡ v) x xs all) in
    omega (arith, sum_by-cons f x xs)

same_test : (a b c d : ℕ) → (a ≡ b → c ≡ d) → (c ≡ d → a ≡ b) → eqb a b ≡ eqb c d
same_test a b c d there back = elim (cases_eq a b) [
  | inl e ↦ eq-eqb a b e ∙ sym (eq-eqb c d (there e))
  | inr ne ↦ ne_eqb a b ne ∙ sym (ne_eqb c d (λ e. ne (back e)))
]

module _ (orders seed : ℕ) where
  -- ---- the weights come in pairs

  even_weight : (j : ℕ) → 2 * j + 1 < orders → made_weight orders seed (2 * j) ≡ first_weight seed (j + 1)
  even_weight j h =
      let half : 2 * j / 2 + 1 ≡ j + 1 = omega arith in
      cond-false (eqb (2 * j % 2) 1) (44 - first_weight seed (2 * j / 2 + 1)) (cond (eqb (2 * j + 1) orders) 44 (first_weight seed (2 * j / 2 + 1))) (ne_eqb (2 * j % 2) 1 (λ e. omega arith))
      ∙ cond-false (eqb (2 * j + 1) orders) 44 (first_weight seed (2 * j / 2 + 1)) (ne_eqb (2 * j + 1) orders (λ e. omega arith))
      ∙ ap (first_weight seed) half

  odd_weight : (j : ℕ) → made_weight orders seed (2 * j + 1) ≡ 44 - first_weight seed (j + 1)
  odd_weight j =
      let half : (2 * j + 1) / 2 + 1 ≡ j + 1 = omega arith in
      cond-true (eqb ((2 * j + 1) % 2) 1) (44 - first_weight seed ((2 * j + 1) / 2 + 1)) (cond (eqb (2 * j + 1 + 1) orders) 44 (first_weight seed ((2 * j + 1) / 2 + 1))) (eq-eqb ((2 * j + 1) % 2) 1 (omega arith))
      ∙ ap (λ i. 44 - first_weight seed i) half

  last_weight : (j : ℕ) → 2 * j + 1 ≡ orders → made_weight orders seed (2 * j) ≡ 44
  last_weight j h =
      cond-false (eqb (2 * j % 2) 1) (44 - first_weight seed (2 * j / 2 + 1)) (cond (eqb (2 * j + 1) orders) 44 (first_weight seed (2 * j / 2 + 1))) (ne_eqb (2 * j % 2) 1 (λ e. omega arith))
      ∙ cond-true (eqb (2 * j + 1) orders) 44 (first_weight seed (2 * j / 2 + 1)) (eq-eqb (2 * j + 1) orders h)

  -- whether order i weighs so much
  abbrev weighs : ℕ → ℕ → ℕ
  weighs x i = cond (eqb (made_weight orders seed i) x) 1 0

  -- how many of the first orders weigh so much
  abbrev among : ℕ → ℕ → ℕ
  among x k = sum_by (weighs x) (range_with_len 0 k)

  among_pair : (x j : ℕ) → 2 * j + 1 < orders → among x (2 * j + 1 + 1) ≡ among x (2 * j) + (cond (eqb (first_weight seed (j + 1)) x) 1 0 + cond (eqb (44 - first_weight seed (j + 1)) x) 1 0)
  among_pair x j h =
      omega (
        arith,
        sum_range_more (weighs x) (2 * j + 1),
        sum_range_more (weighs x) (2 * j),
        ap {B = ℕ} (λ w. cond (eqb w x) 1 0) (even_weight j h),
        ap {B = ℕ} (λ w. cond (eqb w x) 1 0) (odd_weight j),
      )

  record IsBalanced (k : ℕ) : Type 0 where
    pairs : (x : ℕ) → 0 < x → x < 22 → among x k ≡ among (44 - x) k
    even : (h : ℕ) × (among 22 k ≡ h + h)

  more_balanced : (j : ℕ) → 2 * j + 1 < orders → IsBalanced (2 * j) → IsBalanced (2 * j + 1 + 1)
  more_balanced j h b =
      let a = first_between seed (j + 1) in
      record {
        pairs = λ x low high. omega (
          arith,
          among_pair x j h,
          among_pair (44 - x) j h,
          b.pairs x low high,
          ap {B = ℕ} (λ (t : Bool). cond t 1 0) (same_test (first_weight seed (j + 1)) x (44 - first_weight seed (j + 1)) (44 - x) (λ e. omega arith) (λ e. omega (arith, a.1))),
          ap {B = ℕ} (λ (t : Bool). cond t 1 0) (same_test (44 - first_weight seed (j + 1)) x (first_weight seed (j + 1)) (44 - x) (λ e. omega (arith, a.1)) (λ e. omega arith)),
        );
        even = (
          b.even.0 + cond (eqb (first_weight seed (j + 1)) 22) 1 0,
          omega (
            arith,
            among_pair 22 j h,
            b.even.1,
            ap {B = ℕ} (λ (t : Bool). cond t 1 0) (same_test (first_weight seed (j + 1)) 22 (44 - first_weight seed (j + 1)) 22 (λ e. omega arith) (λ e. omega (arith, a.1))),
          ),
        );
      }

  pairs_balanced : (j : ℕ) → 2 * j ≤ orders → IsBalanced (2 * j)
  pairs_balanced zero h = record { pairs = λ x low high. refl; even = (0, refl) }
  pairs_balanced (suc j) h =
      let e : 2 * j + 1 + 1 ≡ 2 * suc j = omega arith in
      subst IsBalanced e (more_balanced j (omega arith) (pairs_balanced j (omega arith)))

  all_balanced : IsBalanced orders
  all_balanced = elim (cases_eq (2 * (orders / 2)) orders) [
    | inl e ↦ subst IsBalanced e (pairs_balanced (orders / 2) (omega arith))
    | inr ne ↦
        let odd : 2 * (orders / 2) + 1 ≡ orders = omega arith in
        let b : IsBalanced (2 * (orders / 2)) = pairs_balanced (orders / 2) (omega arith) in
        let more : (x : ℕ) → x < 44 → among x (2 * (orders / 2) + 1) ≡ among x (2 * (orders / 2)) =
        λ x h. omega (arith, sum_range_more (weighs x) (2 * (orders / 2)), ap {B = ℕ} (λ w. cond (eqb w x) 1 0) (last_weight (orders / 2) odd), none (eqb 44 x) (ne_eqb 44 x (λ e. omega arith))) in
        subst IsBalanced odd (record {
          pairs = λ x low high. omega (arith, more x (omega arith), b.pairs x low high, more (44 - x) (omega arith));
          even = (b.even.0, omega (arith, more 22 (omega arith), b.even.1));
        })
  ]

  -- ---- what they weigh together

  pairs_weigh : (j : ℕ) → 2 * j ≤ orders → sum_by (made_weight orders seed) (range_with_len 0 (2 * j)) ≡ 44 * j
  pairs_weigh zero h = refl
  pairs_weigh (suc j) h =
      let e : 2 * suc j ≡ 2 * j + 1 + 1 = omega arith in
      let a = first_between seed (j + 1) in
      ap (λ k. sum_by (made_weight orders seed) (range_with_len 0 k)) e
      ∙ omega (
        arith,
        sum_range_more (made_weight orders seed) (2 * j + 1),
        sum_range_more (made_weight orders seed) (2 * j),
        even_weight j (omega arith),
        odd_weight j,
        a.1,
        pairs_weigh j (omega arith),
      )

  all_weigh : sum_by (made_weight orders seed) (range_with_len 0 orders) ≡ 44 * ((orders + 1) / 2)
  all_weigh = elim (cases_eq (2 * (orders / 2)) orders) [
    | inl e ↦ ap (λ k. sum_by (made_weight orders seed) (range_with_len 0 k)) (sym e) ∙ pairs_weigh (orders / 2) (omega arith) ∙ omega arith
    | inr ne ↦
        let odd : 2 * (orders / 2) + 1 ≡ orders = omega arith in
        ap (λ k. sum_by (made_weight orders seed) (range_with_len 0 k)) (sym odd)
        ∙ omega (arith, sum_range_more (made_weight orders seed) (2 * (orders / 2)), last_weight (orders / 2) odd, pairs_weigh (orders / 2) (omega arith))
  ]

  -- ---- first fit on the mill

  weight_is : (o : ℕ) → o < orders → weight (made_mill orders seed) o ≡ made_weight orders seed o
  weight_is o h =
      let at : get_or (range_with_len 0 orders) o 0 ≡ o = get_or-range 0 orders o 0 h ∙ omega arith in
      ap (λ (order : Order). order.weight) (get_or-map (made_order orders seed) (range_with_len 0 orders) o 0 (record { weight = 0; colour = 0 }) (omega (arith, length-range 0 orders)) ∙ ap (made_order orders seed) at)

  count_orders : length (map (made_order orders seed) (range_with_len 0 orders)) ≡ orders
  count_orders = length-map (range_with_len 0 orders) (made_order orders seed) ∙ length-range 0 orders

  -- a sum over the orders by weight
  sum_of : (f g : ℕ → ℕ) → ((o : ℕ) → o < orders → f o ≡ g o) → sum_by f (by_weight (made_mill orders seed)) ≡ sum_by g (range_with_len 0 orders)
  sum_of f g same =
      let all : sum_by f (range_with_len 0 (length (map (made_order orders seed) (range_with_len 0 orders)))) ≡ sum_by f (range_with_len 0 orders) = ap (λ n. sum_by f (range_with_len 0 n)) count_orders in
      omega (arith, sum_by-weight (made_mill orders seed) f [] (range_with_len 0 (length (map (made_order orders seed) (range_with_len 0 orders)))), all, sum_range_same f g orders same)

  counted : (x : ℕ) → orders_of (made_mill orders seed) x (by_weight (made_mill orders seed)) ≡ among x orders
  counted x = sum_of (λ o. cond (eqb (weight (made_mill orders seed) o) x) 1 0) (weighs x) (λ o h. ap {B = ℕ} (λ w. cond (eqb w x) 1 0) (weight_is o h))

  total_is : sum_by (weight (made_mill orders seed)) (by_weight (made_mill orders seed)) ≡ total_weight (made_mill orders seed)
  total_is =
      sum_of (weight (made_mill orders seed)) (made_weight orders seed) weight_is
      ∙ sym (sum_by-map (λ (order : Order). order.weight) (made_order orders seed) (range_with_len 0 orders))

  between : (o : ℕ) → o < orders → (0 < weight (made_mill orders seed) o) × (weight (made_mill orders seed) o ≤ 44)
  between o h = let w = weight_between orders seed o in (omega (arith, weight_is o h, w.0), omega (arith, weight_is o h, w.1))

  halves : AreHalves (made_mill orders seed) (by_weight (made_mill orders seed)) []
  halves = record {
    each = λ k d h. absurd (omega arith);
    pairs = λ x low high. omega (arith, counted x, counted (44 - x), all_balanced.pairs x low high);
    even = (all_balanced.even.0, omega (arith, counted 22, all_balanced.even.1));
    once = omega arith;
    weights = omega arith;
    falls = falls_all (made_mill orders seed) [] (range_with_len 0 (length (map (made_order orders seed) (range_with_len 0 orders)))) tt;
    range = All-weight (made_mill orders seed) (λ o. (0 < weight (made_mill orders seed) o) × (weight (made_mill orders seed) o ≤ 44)) [] (range_with_len 0 (length (map (made_order orders seed) (range_with_len 0 orders))))
        (All-nil (λ o. (0 < weight (made_mill orders seed) o) × (weight (made_mill orders seed) o ≤ 44)))
        (λ k d h.
        let count : length (map (made_order orders seed) (range_with_len 0 orders)) ≡ orders = count_orders in
        let within : k < orders = omega (arith, length-range 0 (length (map (made_order orders seed) (range_with_len 0 orders)))) in
        let at : get_or (range_with_len 0 (length (map (made_order orders seed) (range_with_len 0 orders)))) k d ≡ k = get_or-range 0 (length (map (made_order orders seed) (range_with_len 0 orders))) k d (omega arith) ∙ omega arith in
        subst (λ o. (0 < weight (made_mill orders seed) o) × (weight (made_mill orders seed) o ≤ 44)) (sym at) (between k within));
  }

  total_weighs : total_weight (made_mill orders seed) ≡ 44 * ((orders + 1) / 2)
  total_weighs = sum_by-map (λ (order : Order). order.weight) (made_order orders seed) (range_with_len 0 orders) ∙ all_weigh

  full_size : (c : Column) → c.kind ≡ New 44 → load (made_mill orders seed) c.orders ≡ 44 → size_of (made_mill orders seed) (closed_kind (made_mill orders seed) c c.kind) ≡ 44
  full_size c kind full = ap (λ (k : Kind). size_of (made_mill orders seed) (closed_kind (made_mill orders seed) c k)) kind ∙ ap (least_size (made_mill orders seed)) full

  pub made_is_plain : IsMadePlain orders seed
  made_is_plain =
      let it = all_halves (made_mill orders seed) refl refl (by_weight (made_mill orders seed)) [] halves in
      let slabs : List Column = it.0 in
      let full = all_full (made_mill orders seed) it.0 it.2 in
      let sizes : sum_by (size_of (made_mill orders seed)) (kinds_of (closed_slabs (made_mill orders seed) it.0)) ≡ length it.0 * 44 =
      sum_by-map (size_of (made_mill orders seed)) (λ (c : Column). c.kind) (closed_slabs (made_mill orders seed) it.0)
      ∙ sum_by-closed (made_mill orders seed) (λ (c : Column). size_of (made_mill orders seed) c.kind) [] it.0
      ∙ omega (arith, sum_by_each (λ (c : Column). size_of (made_mill orders seed) (closed (made_mill orders seed) c).kind) 44 it.0 (λ k d h. full_size (get_or it.0 k d) (full k d h).0 (full k d h).1)) in
      let loads : sum_by (λ (c : Column). load (made_mill orders seed) c.orders) it.0 ≡ length it.0 * 44 = sum_by_each (λ (c : Column). load (made_mill orders seed) c.orders) 44 it.0 (λ k d h. (full k d h).1) in
      let total : total_weight (made_mill orders seed) ≡ length it.0 * 44 = omega (arith, total_is, it.2.weights, loads) in
      let news : count_by is_new (kinds_of (closed_slabs (made_mill orders seed) it.0)) ≡ length it.0 =
      sum_by-map (λ kind. cond (is_new kind) 1 0) (λ (c : Column). c.kind) (closed_slabs (made_mill orders seed) it.0)
      ∙ counted-closed (made_mill orders seed) is_new it.0 (same_new (made_mill orders seed))
      ∙ sum_by_each (λ (c : Column). cond (is_new c.kind) 1 0) 1 it.0 (λ k d h. ap {B = ℕ} (λ kind. cond (is_new kind) 1 0) (full k d h).0)
      ∙ omega arith in
      record {
        plain = record {
          plan = plan_of (length (map (made_order orders seed) (range_with_len 0 orders))) (closed_slabs (made_mill orders seed) it.0);
          first = ap (option_map (λ slabs. plan_of (length (map (made_order orders seed) (range_with_len 0 orders))) (closed_slabs (made_mill orders seed) slabs))) it.1;
          loss = omega (arith, sizes, total);
          refuted = inr (inr (omega (arith, ints, news, total)));
        };
        count = omega (arith, news, total, total_weighs);
      }
