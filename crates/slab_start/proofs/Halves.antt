-- First fit where the weights make up pairs of 44: each slab is filled.
use Rattle.std.proofs.Common.{◌≡◌, ℕ, ◌+◌, ◌-◌, ◌<◌, ◌≤◌, ◌⊎◌, Bool, true, false, cond, ◌&&◌, eqb, ltb, leb, List, [], ◌∷◌, ◌++◌, length, get_or, set, map, count_by, sum_by, All, Option, Some, None, refl, sym, ap, ◌∙◌, subst, inl, inr, arith}
use Rattle.std.specs.Option.{option_map, option_or, option_and_then}
use Rattle.std.specs.List.{fold, position, position_or_len}
use Rattle.std.proofs.lemmas.Bool.{cases_Bool, cases_eq, cases_lt, cases_order, and_parts, eq-eqb, ne_eqb, eqb-true, eqb-false, leb-true, le-leb, ltb-true, ltb-false, lt-ltb, both_ways, cond-true}
use Rattle.std.proofs.lemmas.List.Sums.{sum_by-cons, sum_by-set, sum_by_push, passes_at_first, get_or-le-sum_by}
use Rattle.std.proofs.lemmas.List.Elements.{All-nil, All-cons, All-head, All-tail, All-get_or, All-set, All-push}
use Rattle.std.proofs.lemmas.List.Quantifiers.{position-Some}
use Rattle.mill_model.specs.declared.kind.Kind.TheVariants.{New}
use Rattle.mill_model.specs.Mill.{Mill}
use Rattle.mill_model.specs.Plain.{greatest_size}
use Rattle.mill_model.specs.Columns.{Column, order_at, load, different, colours_of}
use Rattle.slab_filling.specs.Lists.{put_before}
use Rattle.slab_filling.specs.Slabs.{empty, with_order, takes}
use Rattle.slab_start.specs.FirstFit.{is_lighter, by_weight, on_opened, place_order, place_orders}
use Rattle.slab_filling.proofs.PutBefore.{sum_by-put, All-put, put-cons}
use Rattle.slab_filling.proofs.Loads.{different-put}
use Rattle.slab_filling.proofs.Counts.{one, none, counted-cons, none_passes, first_within}

-- ---- where a test passes nowhere, or somewhere

position_at : {X : Type 0} (test : X → Bool) (xs : List X) → 0 < count_by test xs → position test xs ≡ Some (position_or_len test xs)
position_at test xs h = cond-true (ltb (position_or_len test xs) (length xs)) (Some (position_or_len test xs)) None (lt-ltb (position_or_len test xs) (length xs) (first_within test xs h))

position_none : {X : Type 0} (test : X → Bool) (xs : List X) (k : ℕ) (d : X) → position test xs ≡ None → k < length xs → test (get_or xs k d) ≡ false
position_none test xs k d e h = elim (cases_Bool (test (get_or xs k d))) [
  | inl t ↦
      let some : 0 < count_by test xs = omega (arith, get_or-le-sum_by (λ x. cond (test x) 1 0) xs k d h, one (test (get_or xs k d)) t) in
      let both : None ≡ Some (position_or_len test xs) = sym e ∙ position_at test xs some in
      cc
  | inr f ↦ f
]

-- ---- weights that fall

module _ (m : Mill) where
  abbrev pub weight : ℕ → ℕ
  weight o = (order_at m o).weight

  abbrev pub Falls : List ℕ → Type 0
  Falls [] = Unit {0}
  Falls (o ∷ orders) = All (λ k. weight k ≤ weight o) orders × Falls orders

  falls_put : (o : ℕ) (orders : List ℕ) → Falls orders → Falls (put_before (is_lighter m o) o orders)
  falls_put o [] f = (All-nil (λ k. weight k ≤ weight o), tt)
  falls_put o (y ∷ ys) f = subst Falls (sym (put-cons (is_lighter m o) o y ys)) (elim (cases_Bool (is_lighter m o y)) [
    | inl e ↦ let lt : weight y < weight o = ltb-true (weight y) (weight o) e in
        rw e (All-cons (λ k. weight k ≤ weight o) y ys (omega arith) (λ k d h. omega (arith, f.0 k d h)), f)
    | inr e ↦ rw e (All-put (λ k. weight k ≤ weight y) (is_lighter m o) o ys (ltb-false (weight y) (weight o) e) f.0, falls_put o ys f.1)
  ])

  pub falls_all : (orders numbers : List ℕ) → Falls orders → Falls (fold (λ os o. put_before (is_lighter m o) o os) orders numbers)
  falls_all orders [] f = f
  falls_all orders (o ∷ numbers) f = falls_all (put_before (is_lighter m o) o orders) numbers (falls_put o orders f)

  -- how many of these orders, or of these slabs, weigh so much
  abbrev pub orders_of : ℕ → List ℕ → ℕ
  orders_of x orders = count_by (λ o. eqb (weight o) x) orders

  abbrev pub slabs_of : ℕ → List Column → ℕ
  slabs_of x slabs = count_by (λ (c : Column). eqb (load m c.orders) x) slabs

  none_above : (x a : ℕ) (orders : List ℕ) → a < x → All (λ k. weight k ≤ a) orders → orders_of x orders ≡ 0
  none_above x a [] h all = refl
  none_above x a (o ∷ orders) h all =
      let le : weight o ≤ a = All-head (λ k. weight k ≤ a) o orders all in
      omega (arith, counted-cons (λ k. eqb (weight k) x) o orders, none (eqb (weight o) x) (ne_eqb (weight o) x (λ e. omega arith)), none_above x a orders h (All-tail (λ k. weight k ≤ a) o orders all))

  -- ---- slabs that are full, or have one order of at least half the size

  pub record IsSingle (c : Column) : Type 0 where
    pub order : ℕ
    pub alone : c.orders ≡ order ∷ []
    pub half : 22 ≤ load m c.orders
    pub below : load m c.orders < 44

  pub record IsPart (c : Column) : Type 0 where
    pub new : c.kind ≡ New 44
    pub part : (load m c.orders ≡ 44) ⊎ IsSingle c

  load_with : (o : ℕ) (c : Column) → load m (with_order o c).orders ≡ load m c.orders + weight o
  load_with o c = sum_by-put weight (ltb o) o c.orders

  at_least_half : (c : Column) → IsPart c → 22 ≤ load m c.orders
  at_least_half c p = elim p.part [ inl e ↦ omega arith | inr s ↦ s.half ]

  takes_within : (o : ℕ) (c : Column) → IsPart c → takes m o c ≡ true → load m c.orders + weight o ≤ 44
  takes_within o c p t =
      let both = and_parts (leb (load m (with_order o c).orders) 44 && leb (colours_of m (with_order o c).orders) m.colour_limit) true (rw p.new at t) in
      let fits = and_parts (leb (load m (with_order o c).orders) 44) (leb (colours_of m (with_order o c).orders) m.colour_limit) both.0 in
      omega (arith, leb-true (load m (with_order o c).orders) 44 fits.0, load_with o c)

  few : (f : ℕ → ℕ) (o q : ℕ) → different (map f (o ∷ q ∷ [])) ≤ 2
  few f o q = elim (cases_Bool (eqb (f q) (f o))) [ inl e ↦ rw e (omega arith) | inr e ↦ rw e (omega arith) ]

  takes_single : (o : ℕ) (c : Column) → m.colour_limit ≡ 2 → c.kind ≡ New 44 → IsSingle c → load m c.orders + weight o ≤ 44 → takes m o c ≡ true
  takes_single o c two new s h =
      let colours : colours_of m (with_order o c).orders ≤ 2 = omega (arith, ap (λ os. different (map (λ x. (order_at m x).colour) (put_before (ltb o) o os))) s.alone, different-put (λ x. (order_at m x).colour) (ltb o) o (s.order ∷ []), few (λ x. (order_at m x).colour) o s.order) in
      rw (new, le-leb (load m (with_order o c).orders) 44 (omega (arith, load_with o c)), le-leb (colours_of m (with_order o c).orders) m.colour_limit (omega arith)) refl

  pub record AreHalves (left : List ℕ) (slabs : List Column) : Type 0 where
    pub each : All IsPart slabs
    pub pairs : (x : ℕ) → 0 < x → x < 22 → orders_of x left ≡ slabs_of (44 - x) slabs + orders_of (44 - x) left
    pub even : (h : ℕ) × (slabs_of 22 slabs + orders_of 22 left ≡ h + h)
    pub once : slabs_of 22 slabs ≤ 1
    pub weights : sum_by (λ (c : Column). load m c.orders) slabs + sum_by weight left ≡ sum_by weight (by_weight m)
    pub falls : Falls left
    pub range : All (λ o. (0 < weight o) × (weight o ≤ 44)) left

  module _ (two : m.colour_limit ≡ 2) (most : greatest_size m ≡ 44) (o : ℕ) (left : List ℕ) (slabs : List Column) (f : AreHalves (o ∷ left) slabs) where
    light : (0 < weight o) × (weight o ≤ 44)
    light = All-head (λ k. (0 < weight k) × (weight k ≤ 44)) o left f.range

    -- how many orders of a weight are left, with the next
    left_with : (x : ℕ) → orders_of x (o ∷ left) ≡ cond (eqb (weight o) x) 1 0 + orders_of x left
    left_with x = counted-cons (λ k. eqb (weight k) x) o left

    -- none that is left is heavier
    no_heavier : (x : ℕ) → weight o < x → orders_of x (o ∷ left) ≡ 0
    no_heavier x h = none_above x (weight o) (o ∷ left) h (All-cons (λ k. weight k ≤ weight o) o left (omega arith) f.falls.0)

    -- a slab that takes the order is filled by it
    filled_up : (k : ℕ) (d : Column) → k < length slabs → takes m o (get_or slabs k d) ≡ true → load m (get_or slabs k d).orders + weight o ≡ 44
    filled_up k d h t =
        let c : Column = get_or slabs k d in
        let part : IsPart (get_or slabs k d) = All-get_or IsPart slabs k d h f.each in
        let within : load m (get_or slabs k d).orders + weight o ≤ 44 = takes_within o (get_or slabs k d) part t in
        let half : 22 ≤ load m (get_or slabs k d).orders = at_least_half (get_or slabs k d) part in
        let here : 1 ≤ slabs_of (load m (get_or slabs k d).orders) slabs = omega (arith, get_or-le-sum_by (λ (s : Column). cond (eqb (load m s.orders) (load m (get_or slabs k d).orders)) 1 0) slabs k d h, one (eqb (load m (get_or slabs k d).orders) (load m (get_or slabs k d).orders)) (eq-eqb (load m (get_or slabs k d).orders) (load m (get_or slabs k d).orders) refl)) in
        tight (load m (get_or slabs k d).orders) within half here
      where
        tight : (l : ℕ) → l + weight o ≤ 44 → 22 ≤ l → 1 ≤ slabs_of l slabs → l + weight o ≡ 44
        tight l within half here = elim (cases_order (l + weight o) 44) [
          | inl e ↦ e
          | inr other ↦ elim other [
            | inr more ↦ absurd (omega arith)
            | inl less ↦ elim (cases_eq l 22) [
              | inl e ↦
                  let some : 1 ≤ slabs_of 22 slabs = subst (λ x. 1 ≤ slabs_of x slabs) e here in
                  absurd (omega (arith, f.once, f.even.1, no_heavier 22 (omega arith)))
              | inr ne ↦
                  let back : 44 - (44 - l) ≡ l = omega arith in
                  let same : slabs_of (44 - (44 - l)) slabs ≡ slabs_of l slabs = ap (λ x. slabs_of x slabs) back in
                  absurd (omega (arith, f.pairs (44 - l) (omega (arith, light)) (omega arith), no_heavier (44 - l) (omega arith), same, here))
            ]
          ]
        ]

    fill_slab : (k : ℕ) (d : Column) → k < length slabs → takes m o (get_or slabs k d) ≡ true → AreHalves left (set slabs k (with_order o (get_or slabs k d)))
    fill_slab k d h t =
        let c : Column = get_or slabs k d in
        let full : load m (get_or slabs k d).orders + weight o ≡ 44 = filled_up k d h t in
        let part : IsPart (get_or slabs k d) = All-get_or IsPart slabs k d h f.each in
        let half : 22 ≤ load m (get_or slabs k d).orders = at_least_half (get_or slabs k d) part in
        let full_load : load m (with_order o (get_or slabs k d)).orders ≡ 44 = load_with o (get_or slabs k d) ∙ full in
        let less : (x : ℕ) → x < 44 → slabs_of x (set slabs k (with_order o (get_or slabs k d))) + cond (eqb (load m (get_or slabs k d).orders) x) 1 0 ≡ slabs_of x slabs =
        λ x l. omega (arith, sum_by-set (λ (s : Column). cond (eqb (load m s.orders) x) 1 0) slabs k (with_order o (get_or slabs k d)) d h, none (eqb (load m (with_order o (get_or slabs k d)).orders) x) (ne_eqb (load m (with_order o (get_or slabs k d)).orders) x (λ e. omega arith))) in
        record {
          each = All-set IsPart slabs k (with_order o (get_or slabs k d)) (record { new = part.new; part = inl full_load }) f.each;
          pairs = λ x low high. pair (load m (get_or slabs k d).orders) x (slabs_of (44 - x) (set slabs k (with_order o (get_or slabs k d)))) low high half full (less (44 - x) (omega arith));
          even = halved (load m (get_or slabs k d).orders) (slabs_of 22 (set slabs k (with_order o (get_or slabs k d)))) full half (less 22 (omega arith));
          once = omega (arith, less 22 (omega arith), f.once);
          weights = omega (arith, sum_by-set (λ (s : Column). load m s.orders) slabs k (with_order o (get_or slabs k d)) d h, load_with o (get_or slabs k d), sum_by-cons weight o left, f.weights);
          falls = f.falls.1;
          range = All-tail (λ i. (0 < weight i) × (weight i ≤ 44)) o left f.range;
        }
      where
        pair : (l x n : ℕ) → 0 < x → x < 22 → 22 ≤ l → l + weight o ≡ 44 → n + cond (eqb l (44 - x)) 1 0 ≡ slabs_of (44 - x) slabs → orders_of x left ≡ n + orders_of (44 - x) left
        pair l x n low high half full less = elim (cases_eq (weight o) x) [
          | inl e ↦ omega (arith, f.pairs x low high, left_with x, left_with (44 - x), less, one (eqb (weight o) x) (eq-eqb (weight o) x e), none (eqb (weight o) (44 - x)) (ne_eqb (weight o) (44 - x) (λ q. omega arith)), one (eqb l (44 - x)) (eq-eqb l (44 - x) (omega arith)))
          | inr ne ↦ elim (cases_eq (weight o) (44 - x)) [
            | inl e ↦ absurd (omega arith)
            | inr other ↦ omega (arith, f.pairs x low high, left_with x, left_with (44 - x), less, none (eqb (weight o) x) (ne_eqb (weight o) x ne), none (eqb (weight o) (44 - x)) (ne_eqb (weight o) (44 - x) other), none (eqb l (44 - x)) (ne_eqb l (44 - x) (λ q. ne (omega arith))))
          ]
        ]

        halved : (l n : ℕ) → l + weight o ≡ 44 → 22 ≤ l → n + cond (eqb l 22) 1 0 ≡ slabs_of 22 slabs → (h : ℕ) × (n + orders_of 22 left ≡ h + h)
        halved l n full half less = elim (cases_eq l 22) [
          | inl e ↦ (f.even.0 - 1, omega (arith, f.even.1, left_with 22, less, one (eqb l 22) (eq-eqb l 22 e), one (eqb (weight o) 22) (eq-eqb (weight o) 22 (omega arith))))
          | inr ne ↦ (f.even.0, omega (arith, f.even.1, left_with 22, less, none (eqb l 22) (ne_eqb l 22 ne), none (eqb (weight o) 22) (ne_eqb (weight o) 22 (λ q. ne (omega arith)))))
        ]

    -- a slab of this load takes the order, where it fits
    taken_by : (x : ℕ) → x + weight o ≤ 44 → x < 44 → position (takes m o) slabs ≡ None → slabs_of x slabs ≡ 0
    taken_by x h below e = elim (cases_eq (slabs_of x slabs) 0) [
      | inl z ↦ z
      | inr some ↦ absurd (
          let d : Column = empty (New 0) in
          let k : ℕ = position_or_len (λ (c : Column). eqb (load m c.orders) x) slabs in
          let within : position_or_len (λ (c : Column). eqb (load m c.orders) x) slabs < length slabs = first_within (λ (c : Column). eqb (load m c.orders) x) slabs (omega arith) in
          let is : load m (get_or slabs k d).orders ≡ x = eqb-true (load m (get_or slabs k d).orders) x (passes_at_first (λ (c : Column). eqb (load m c.orders) x) slabs d within) in
          let part : IsPart (get_or slabs k d) = All-get_or IsPart slabs k d within f.each in
          let t : takes m o (get_or slabs k d) ≡ true = elim part.part [
            | inl full ↦ absurd (omega arith)
            | inr s ↦ takes_single o (get_or slabs k d) two part.new s (omega arith)
          ] in
          both_ways (takes m o (get_or slabs k d)) (position_none (takes m o) slabs k d e within) t)
    ]

    -- where no slab takes the order, it is at least half a slab
    heavy : position (takes m o) slabs ≡ None → 22 ≤ weight o
    heavy e = elim (cases_lt (weight o) 22) [
      | inr h ↦ h
      | inl l ↦ absurd (omega (arith, f.pairs (weight o) light.0 l, left_with (weight o), one (eqb (weight o) (weight o)) (eq-eqb (weight o) (weight o) refl), no_heavier (44 - weight o) (omega arith), taken_by (44 - weight o) (omega arith) (omega (arith, light.0)) e))
    ]

    open_slab : position (takes m o) slabs ≡ None → AreHalves left (slabs ++ with_order o (empty (New 44)) ∷ [])
    open_slab e =
        let big : 22 ≤ weight o = heavy e in
        let new_load : load m (with_order o (empty (New 44))).orders ≡ weight o = load_with o (empty (New 44)) ∙ omega arith in
        let more : (x : ℕ) → slabs_of x (slabs ++ with_order o (empty (New 44)) ∷ []) ≡ slabs_of x slabs + cond (eqb (weight o) x) 1 0 =
        λ x. sum_by_push (λ (s : Column). cond (eqb (load m s.orders) x) 1 0) slabs (with_order o (empty (New 44))) ∙ ap (λ w. slabs_of x slabs + cond (eqb w x) 1 0) new_load in
        record {
          each = All-push IsPart slabs (with_order o (empty (New 44))) f.each (record {
            new = refl;
            part = elim (cases_eq (weight o) 44) [
              | inl full ↦ inl (new_load ∙ full)
              | inr ne ↦ inr (record { order = o; alone = refl; half = omega arith; below = omega (arith, light.1) })
            ];
          });
          pairs = λ x low high. omega (arith, f.pairs x low high, left_with x, left_with (44 - x), more (44 - x), none (eqb (weight o) x) (ne_eqb (weight o) x (λ q. omega arith)));
          even = (f.even.0, omega (arith, f.even.1, left_with 22, more 22));
          once = elim (cases_eq (weight o) 22) [
            | inl q ↦ omega (arith, more 22, one (eqb (weight o) 22) (eq-eqb (weight o) 22 q), taken_by 22 (omega arith) (omega arith) e)
            | inr ne ↦ omega (arith, more 22, none (eqb (weight o) 22) (ne_eqb (weight o) 22 ne), f.once)
          ];
          weights = omega (arith, sum_by_push (λ (s : Column). load m s.orders) slabs (with_order o (empty (New 44))), new_load, sum_by-cons weight o left, f.weights);
          falls = f.falls.1;
          range = All-tail (λ i. (0 < weight i) × (weight i ≤ 44)) o left f.range;
        }

    -- a new slab takes the order
    new_takes : takes m o (empty (New 44)) ≡ true
    new_takes = rw (le-leb (load m (with_order o (empty (New 44))).orders) 44 (omega (arith, load_with o (empty (New 44)), light.1)), le-leb (colours_of m (with_order o (empty (New 44))).orders) m.colour_limit (omega arith)) refl

    pub next_halves : (next : List Column) × (place_order m None o slabs ≡ Some next) × AreHalves left next
    next_halves = by_first (position (takes m o) slabs) refl
      where
        by_first : (found : Option ℕ) → position (takes m o) slabs ≡ found
            → (next : List Column) × (option_or (option_map (λ k. set slabs k (with_order o (get_or slabs k (empty (New 0))))) found) (on_opened m None o slabs) ≡ Some next) × AreHalves left next
        by_first (Some k) e =
            let at = position-Some (takes m o) slabs k (empty (New 0)) e in
            (set slabs k (with_order o (get_or slabs k (empty (New 0)))), refl, fill_slab k (empty (New 0)) at.0 at.1)
        by_first None e = (slabs ++ with_order o (empty (New 44)) ∷ [], opened, open_slab e)
          where
            opened : on_opened m None o slabs ≡ Some (slabs ++ with_order o (empty (New 44)) ∷ [])
            opened = rw (most, new_takes) refl

  pub all_halves : (m.colour_limit ≡ 2) → greatest_size m ≡ 44 → (orders : List ℕ) (slabs : List Column) → AreHalves orders slabs → (filled : List Column) × (place_orders m None orders slabs ≡ Some filled) × AreHalves [] filled
  all_halves two most [] slabs f = (slabs, refl, f)
  all_halves two most (o ∷ orders) slabs f =
      let step = next_halves two most o orders slabs f in
      let rest = all_halves two most orders step.0 step.2 in
      (rest.0, ap (option_and_then (place_orders m None orders)) step.1 ∙ rest.1, rest.2)

  -- at the end each slab is full
  pub all_full : (slabs : List Column) → AreHalves [] slabs → All (λ (c : Column). (c.kind ≡ New 44) × (load m c.orders ≡ 44)) slabs
  all_full slabs f k d h =
      let part : IsPart (get_or slabs k d) = f.each k d h in (
        part.new,
        elim part.part [
          | inl e ↦ e
          | inr s ↦ absurd (eqb-false (load m (get_or slabs k d).orders) (load m (get_or slabs k d).orders) (none_passes (λ (c : Column). eqb (load m c.orders) (load m (get_or slabs k d).orders)) slabs k d (nowhere (load m (get_or slabs k d).orders) s.half s.below) h) refl)
        ],
      )
    where
      nowhere : (l : ℕ) → 22 ≤ l → l < 44 → slabs_of l slabs ≡ 0
      nowhere l half below = elim (cases_eq l 22) [
        | inl e ↦ subst (λ x. slabs_of x slabs ≡ 0) (sym e) (omega (arith, f.even.1, f.once))
        | inr ne ↦
            let back : 44 - (44 - l) ≡ l = omega arith in
            let same : slabs_of (44 - (44 - l)) slabs ≡ slabs_of l slabs = ap (λ x. slabs_of x slabs) back in
            omega (arith, f.pairs (44 - l) (omega arith) (omega arith), same)
      ]
