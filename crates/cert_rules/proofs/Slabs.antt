-- Slabs in their order, and the plan that they are.
use Rattle.std.proofs.Common.{◌≡◌, ◌||◌, ℕ, zero, suc, ◌+◌, ◌-◌, ◌<◌, ◌≤◌, add-one, eqb, true, false, List, [], ◌∷◌, take, length, get_or, refl, sym, ap, ◌∙◌, subst, arith, inl, inr}
use Rattle.std.specs.List.{position_or_len, list_any}
use Rattle.std.proofs.lemmas.List.{length-take, length-map, get_or-map, get_or-take, ext_get_or}
use Rattle.std.proofs.lemmas.List.FromFn.{length-map-range_with_len, get_or-map-range_with_len}
use Rattle.std.proofs.lemmas.List.Elements.{All-from_get_or}
use Rattle.std.proofs.lemmas.List.Folds.{list_any_at, list_any_none, list_any_kept}
use Rattle.std.proofs.lemmas.List.Sums.{position_or_len_is, passes_at_first, fails_before_first}
use Rattle.std.proofs.lemmas.Bool.{cases_Bool, cases_lt, cases_order, eqb-true, eq-eqb, ne_eqb, both_ways, or_left, false_from_ne_true}
use Rattle.mill_model.proofs.Rising.{same_members}
use Rattle.mill_model.proofs.Slabs.{places_rise, has_places, once_same, has_order, on_a_slab}
use Rattle.mill_model.proofs.Judging.{once_from_pairs}
use Rattle.mill_model.specs.declared.kind.Kind.{Kind}
use Rattle.mill_model.specs.declared.kind.Kind.TheVariants.{New, Old}
use Rattle.mill_model.specs.Mill.{Mill}
use Rattle.mill_model.specs.Columns.{Column, Rises, has, load, colours_of, size_of, has_barred, IsInStock, is_old, Fits}
use Rattle.mill_model.specs.Judging.{is_among}
use Rattle.mill_model.specs.Plans.{Plan, IsLegal, IsInOrder, slab, places_of, first_order}
use Rattle.cert_text.specs.Lines.{columns_of}
use Rattle.cert_rules.specs.Slabs.{IsPlaced, AreAllPlaced, kinds_of, plan_of}

-- what may stand as the next slab of a plan
pub record IsNextSlab (m : Mill) (earlier : List Column) (c : Column) : Type 0 where
  pub stock : IsInStock m c.kind
  pub once : is_among (kinds_of earlier) c.kind ≡ false
  pub some : 0 < length c.orders
  pub rises : Rises 0 (length m.orders) c.orders
  pub new : (o : ℕ) → has c.orders o ≡ true → IsPlaced earlier o → ⊥
  pub least : (o : ℕ) → o < get_or c.orders 0 0 → IsPlaced earlier o
  pub weight : load m c.orders ≤ size_of m c.kind
  pub colours : colours_of m c.orders ≤ m.colour_limit
  pub bars : has_barred m c ≡ false

abbrev pub nothing : Column
nothing = record { kind = New 0; orders = [] }

-- each slab may stand after those before it
abbrev pub AreSlabs : Mill → List Column → Type 0
AreSlabs m slabs = (k : ℕ) → k < length slabs → IsNextSlab m (take k slabs) (get_or slabs k nothing)

-- ---- the first order of a slab

-- rising numbers lie between their ends
has_above : (low high : ℕ) (xs : List ℕ) (o : ℕ) → Rises low high xs → has xs o ≡ true → low ≤ o
has_above low high [] o r h = absurd (both_ways false refl h)
has_above low high (x ∷ xs) o r h = elim (cases_Bool (eqb x o)) [
  | inl e ↦ let same : x ≡ o = eqb-true x o e in omega (arith, same, r.0)
  | inr e ↦ omega (arith, r.0, has_above (x + 1) high xs o r.2 (sym (ap (λ b. b || has xs o) e) ∙ h))
]

pub has_below : (low high : ℕ) (xs : List ℕ) (o : ℕ) → Rises low high xs → has xs o ≡ true → o < high
has_below low high [] o r h = absurd (both_ways false refl h)
has_below low high (x ∷ xs) o r h = elim (cases_Bool (eqb x o)) [
  | inl e ↦ let same : x ≡ o = eqb-true x o e in omega (arith, same, r.1)
  | inr e ↦ has_below (x + 1) high xs o r.2 (sym (ap (λ b. b || has xs o) e) ∙ h)
]

pub head_has : (os : List ℕ) → 0 < length os → has os (get_or os 0 0) ≡ true
head_has [] h = absurd (omega (arith, h))
head_has (o ∷ os) h = or_left (eqb o o) (has os o) (eq-eqb o o refl)

head_least : (low high : ℕ) (os : List ℕ) (o : ℕ) → Rises low high os → has os o ≡ true → get_or os 0 0 ≤ o
head_least low high [] o r h = absurd (both_ways false refl h)
head_least low high (x ∷ os) o r h = has_above x high (x ∷ os) o (omega arith, r.1, r.2) h

-- the first place of slab k is the first of its orders
first_is_head : (k : ℕ) (place : List ℕ) → 0 < length (places_of k 0 place) → position_or_len (λ x. eqb x k) place ≡ get_or (places_of k 0 place) 0 0
first_is_head k place some =
    position_or_len_is (λ x. eqb x k) place (get_or (places_of k 0 place) 0 0) 0 (omega (arith, within))
    (λ j l. false_from_ne_true (eqb (get_or place j 0) k) (λ e. earlier j l e))
    (λ l. sym (has_places k 0 place (get_or (places_of k 0 place) 0 0) (get_or (places_of k 0 place) 0 0) (omega arith) l) ∙ head_has (places_of k 0 place) some)
  where
    rises : Rises 0 (length place) (places_of k 0 place)
    rises = places_rise k 0 (length place) place (omega arith)

    within : get_or (places_of k 0 place) 0 0 < length place
    within = has_below 0 (length place) (places_of k 0 place) (get_or (places_of k 0 place) 0 0) rises (head_has (places_of k 0 place) some)

    earlier : (j : ℕ) → j < get_or (places_of k 0 place) 0 0 → eqb (get_or place j 0) k ≡ true → ⊥
    earlier j l e =
        let here : has (places_of k 0 place) j ≡ true = has_places k 0 place j j (omega arith) (omega (arith, l, within)) ∙ e in
        omega (arith, l, head_least 0 (length place) (places_of k 0 place) j rises here)

-- ---- kinds

old_twice : (kinds : List Kind) (i s : ℕ) (kind : Kind) → i < length kinds → is_old s (get_or kinds i (New 0)) ≡ true → is_old s kind ≡ true → is_among kinds kind ≡ true
old_twice kinds i s (New size) l e f = absurd (both_ways false refl f)
old_twice kinds i s (Old t) l e f = list_any_at (is_old t) kinds i (New 0) l (subst (λ u. is_old u (get_or kinds i (New 0)) ≡ true) (sym (eqb-true t s f)) e)

not_among : (kinds : List Kind) (kind : Kind) → ((i t : ℕ) → i < length kinds → is_old t kind ≡ true → is_old t (get_or kinds i (New 0)) ≡ true → ⊥) → is_among kinds kind ≡ false
not_among kinds (New size) h = refl
not_among kinds (Old t) h = list_any_none (is_old t) kinds (All-from_get_or (λ kind. is_old t kind ≡ false) kinds (New 0) (λ i l. false_from_ne_true (is_old t (get_or kinds i (New 0))) (λ e. h i t l (eq-eqb t t refl) e)))

kind_at : (slabs : List Column) (k : ℕ) → k < length slabs → get_or (kinds_of slabs) k (New 0) ≡ (get_or slabs k nothing).kind
kind_at slabs k l = get_or-map (λ (c : Column). c.kind) slabs k nothing (New 0) l

-- an order on one of the slabs is placed
placed_at : (slabs : List Column) (k o : ℕ) → k < length slabs → has (get_or slabs k nothing).orders o ≡ true → IsPlaced slabs o
placed_at slabs k o l e = list_any_at (λ (c : Column). has c.orders o) slabs k nothing l e

placed_before : (slabs : List Column) (n k o : ℕ) → k < n → n ≤ length slabs → has (get_or slabs k nothing).orders o ≡ true → IsPlaced (take n slabs) o
placed_before slabs n k o l m e = placed_at (take n slabs) k o (omega (arith, length-take n slabs, l, m)) (subst (λ (c : Column). has c.orders o ≡ true) (sym (get_or-take n slabs k nothing l)) e)

-- ---- from slabs to the plan

module _ (m : Mill) (slabs : List Column) (good : AreSlabs m slabs) (placed : AreAllPlaced m slabs) where
  abbrev on : ℕ → ℕ
  on o = position_or_len (λ (c : Column). has c.orders o) slabs

  abbrev at : ℕ → Column
  at k = get_or slabs k nothing

  abbrev plan : Plan
  plan = plan_of (length m.orders) slabs

  one_slab : (o i k : ℕ) → i < k → k < length slabs → has (at i).orders o ≡ true → has (at k).orders o ≡ true → ⊥
  one_slab o i k l h e f = (good k h).new o f (placed_before slabs k i o l (omega (arith, h)) e)

  on_is : (o k : ℕ) → k < length slabs → has (at k).orders o ≡ true → on o ≡ k
  on_is o k l e = position_or_len_is (λ (c : Column). has c.orders o) slabs k nothing (omega (arith, l)) (λ j h. false_from_ne_true (has (at j).orders o) (λ f. one_slab o j k h l f e)) (λ h. e)

  on_within : (o : ℕ) → o < length m.orders → on o < length slabs
  on_within o h = elim (cases_lt (on o) (length slabs)) [
    | inl l ↦ l
    | inr l ↦ absurd (both_ways (list_any (λ (c : Column). has c.orders o) slabs) (list_any_none (λ (c : Column). has c.orders o) slabs (All-from_get_or (λ (c : Column). has c.orders o ≡ false) slabs nothing (λ k h. fails_before_first (λ (c : Column). has c.orders o) slabs k nothing (omega (arith, l, h))))) (placed o h))
  ]

  on_has : (o : ℕ) → on o < length slabs → has (at (on o)).orders o ≡ true
  on_has o l = passes_at_first (λ (c : Column). has c.orders o) slabs nothing l

  has_on : (o k : ℕ) → k < length slabs → eqb (on o) k ≡ has (at k).orders o
  has_on o k l = elim (cases_Bool (has (at k).orders o)) [
    | inl e ↦ eq-eqb (on o) k (on_is o k l e) ∙ sym e
    | inr e ↦ ne_eqb (on o) k (λ q. both_ways (has (at k).orders o) e (subst (λ j. has (at j).orders o ≡ true) q (on_has o (omega (arith, q, l))))) ∙ sym e
  ]

  place_at : (o : ℕ) → o < length m.orders → get_or plan.place o 0 ≡ on o
  place_at o h = get_or-map-range_with_len on 0 (length m.orders) o o 0 h (omega arith)

  length-place : length plan.place ≡ length m.orders
  length-place = length-map-range_with_len on 0 (length m.orders)

  orders_at : (k : ℕ) → k < length slabs → places_of k 0 plan.place ≡ (at k).orders
  orders_at k l =
      same_members 0 (length m.orders) (places_of k 0 plan.place) (at k).orders (places_rise k 0 (length m.orders) plan.place (omega (arith, length-place))) (good k l).rises
      (λ o h. has_places k 0 plan.place o o (omega arith) (omega (arith, length-place, h)) ∙ ap (λ j. eqb j k) (place_at o h) ∙ has_on o k l)

  slab_at : (k : ℕ) → k < length slabs → slab plan k ≡ at k
  slab_at k l i = record { kind = kind_at slabs k l i; orders = orders_at k l i }

  length-kinds : length plan.kinds ≡ length slabs
  length-kinds = length-map slabs (λ (c : Column). c.kind)

  columns_are : columns_of plan ≡ slabs
  columns_are =
      ext_get_or nothing (columns_of plan) slabs (long ∙ length-kinds)
      (λ k l. let h : k < length slabs = omega (arith, l, long, length-kinds) in get_or-map-range_with_len (slab plan) 0 (length plan.kinds) k k nothing (omega (arith, h, length-kinds)) (omega arith) ∙ slab_at k h)
    where
      long : length (columns_of plan) ≡ length plan.kinds
      long = length-map-range_with_len (slab plan) 0 (length plan.kinds)

  kinds_before : (k i : ℕ) → i < k → k < length slabs → get_or (kinds_of (take k slabs)) i (New 0) ≡ get_or plan.kinds i (New 0)
  kinds_before k i l h = kind_at (take k slabs) i (omega (arith, length-take k slabs, l, h)) ∙ ap (λ (c : Column). c.kind) (get_or-take k slabs i nothing l) ∙ sym (kind_at slabs i (omega (arith, l, h)))

  used_once : (s i k : ℕ) → i < k → k < length plan.kinds → is_old s (get_or plan.kinds i (New 0)) ≡ true → is_old s (get_or plan.kinds k (New 0)) ≡ true → ⊥
  used_once s i k l h e f =
      let within : k < length slabs = omega (arith, h, length-kinds) in
      both_ways (is_among (kinds_of (take k slabs)) (at k).kind) (good k within).once
      (old_twice (kinds_of (take k slabs)) i s (at k).kind (omega (arith, length-map (take k slabs) (λ (c : Column). c.kind), length-take k slabs, l, within))
      (subst (λ kind. is_old s kind ≡ true) (sym (kinds_before k i l within)) e) (subst (λ kind. is_old s kind ≡ true) (kind_at slabs k within) f))

  legal : IsLegal m plan
  legal = record {
    places = length-place;
    within = λ o l. let h : o < length m.orders = omega (arith, l, length-place) in omega (arith, place_at o h, on_within o h, length-kinds);
    fits = λ k l. let h : k < length slabs = omega (arith, l, length-kinds) in subst (λ c. Fits m c) (sym (slab_at k h)) (record { kind = (good k h).stock; some = (good k h).some; weight = (good k h).weight; colours = (good k h).colours; bars = (good k h).bars });
    once = λ s. once_from_pairs (is_old s) plan.kinds (New 0) (λ i k l h e f. used_once s i k l h e f);
  }

  first_at : (k : ℕ) → k < length slabs → first_order plan k ≡ get_or (at k).orders 0 0
  first_at k l = first_is_head k plan.place (subst (λ os. 0 < length os) (sym (orders_at k l)) (good k l).some) ∙ ap (λ os. get_or os 0 0) (orders_at k l)

  in_order : IsInOrder plan
  in_order k l =
      let h : suc k < length slabs = omega (arith, l, length-kinds) in
      let here : k < length slabs = omega (arith, h) in
      let next : has (at (suc k)).orders (get_or (at (suc k)).orders 0 0) ≡ true = head_has (at (suc k)).orders (good (suc k) h).some in
      elim (cases_order (get_or (at k).orders 0 0) (get_or (at (suc k)).orders 0 0)) [
        | inl e ↦ absurd (one_slab (get_or (at (suc k)).orders 0 0) k (suc k) (omega arith) h (subst (λ o. has (at k).orders o ≡ true) e (head_has (at k).orders (good k here).some)) next)
        | inr o ↦ elim o [
          | inl less ↦ omega (arith, first_at k here, first_at (suc k) h, less)
          | inr more ↦ absurd ((good (suc k) h).new (get_or (at (suc k)).orders 0 0) next (more_placed k (get_or (at (suc k)).orders 0 0) ((good k here).least (get_or (at (suc k)).orders 0 0) more)))
        ]
      ]
    where
      more_placed : (k o : ℕ) → IsPlaced (take k slabs) o → IsPlaced (take (suc k) slabs) o
      more_placed k o e = subst (λ j. IsPlaced (take j slabs) o) (add-one k) (list_any_kept (λ (c : Column). has c.orders o) slabs k e)

pub plan_from_slabs : (m : Mill) (slabs : List Column) → AreSlabs m slabs → AreAllPlaced m slabs → IsLegal m (plan_of (length m.orders) slabs) × IsInOrder (plan_of (length m.orders) slabs) × (columns_of (plan_of (length m.orders) slabs) ≡ slabs)
plan_from_slabs m slabs good placed = (legal m slabs good placed, in_order m slabs good placed, columns_are m slabs good placed)

-- ---- from the plan to its slabs

module _ (m : Mill) (p : Plan) (fair : IsLegal m p) (order : IsInOrder p) where
  length-columns : length (columns_of p) ≡ length p.kinds
  length-columns = length-map-range_with_len (slab p) 0 (length p.kinds)

  column_at : (k : ℕ) → k < length p.kinds → get_or (columns_of p) k nothing ≡ slab p k
  column_at k l = get_or-map-range_with_len (slab p) 0 (length p.kinds) k k nothing l (omega arith)

  same_kinds : kinds_of (columns_of p) ≡ p.kinds
  same_kinds =
      ext_get_or (New 0) (kinds_of (columns_of p)) p.kinds (length-map (columns_of p) (λ (c : Column). c.kind) ∙ length-columns)
      (λ k l. let h : k < length (columns_of p) = omega (arith, l, length-map (columns_of p) (λ (c : Column). c.kind)) in kind_at (columns_of p) k h ∙ ap (λ (c : Column). c.kind) (column_at k (omega (arith, h, length-columns))))

  first_head : (k : ℕ) → k < length p.kinds → first_order p k ≡ get_or (slab p k).orders 0 0
  first_head k l = first_is_head k p.place (fair.fits k l).some

  rises_at : (k : ℕ) → Rises 0 (length m.orders) (slab p k).orders
  rises_at k = places_rise k 0 (length m.orders) p.place (omega (arith, fair.places))

  -- a later slab has a later first order
  later_first : (k d : ℕ) → k + d < length p.kinds → first_order p k ≤ first_order p (k + d)
  later_first k zero l = let same : k + 0 ≡ k = omega arith in rw same (omega arith)
  later_first k (suc d) l =
      let same : k + suc d ≡ suc (k + d) = omega arith in
      let before : first_order p k ≤ first_order p (k + d) = later_first k d (omega (arith, l)) in
      rw same (omega (arith, before, order (k + d) (omega (arith, l))))

  earlier_at : (k i : ℕ) → i < k → k < length p.kinds → get_or (take k (columns_of p)) i nothing ≡ slab p i
  earlier_at k i l h = get_or-take k (columns_of p) i nothing l ∙ column_at i (omega (arith, l, h))

  length-earlier : (k : ℕ) → k < length p.kinds → length (take k (columns_of p)) ≡ k
  length-earlier k h = omega (arith, length-take k (columns_of p), length-columns, h)

  next_slab : (k : ℕ) → k < length p.kinds → IsNextSlab m (take k (columns_of p)) (slab p k)
  next_slab k l = record {
    stock = (fair.fits k l).kind;
    once = not_among (kinds_of (take k (columns_of p))) (slab p k).kind (λ i t h e f. once_kind i t h e f);
    some = (fair.fits k l).some;
    rises = rises_at k;
    new = new_here;
    least = least_here;
    weight = (fair.fits k l).weight;
    colours = (fair.fits k l).colours;
    bars = (fair.fits k l).bars;
  }
    where
      once_kind : (i t : ℕ) → i < length (kinds_of (take k (columns_of p))) → is_old t (slab p k).kind ≡ true → is_old t (get_or (kinds_of (take k (columns_of p))) i (New 0)) ≡ true → ⊥
      once_kind i t h e f =
          let below : i < k = omega (arith, h, length-map (take k (columns_of p)) (λ (c : Column). c.kind), length-earlier k l) in
          let kind_is : get_or (kinds_of (take k (columns_of p))) i (New 0) ≡ get_or p.kinds i (New 0) = kind_at (take k (columns_of p)) i (omega (arith, below, length-earlier k l)) ∙ ap (λ (c : Column). c.kind) (earlier_at k i below l) in
          omega (arith, below, once_same (is_old t) p.kinds i k (New 0) (fair.once t) (omega (arith, below, l)) l (subst (λ kind. is_old t kind ≡ true) kind_is f) e)

      new_here : (o : ℕ) → has (slab p k).orders o ≡ true → IsPlaced (take k (columns_of p)) o → ⊥
      new_here o e placed =
          let within : o < length m.orders = has_below 0 (length m.orders) (slab p k).orders o (rises_at k) e in
          let here : get_or p.place o 0 ≡ k = eqb-true (get_or p.place o 0) k (sym (has_order m p fair k o within) ∙ e) in
          both_ways (list_any (λ (c : Column). has c.orders o) (take k (columns_of p)))
          (list_any_none (λ (c : Column). has c.orders o) (take k (columns_of p)) (All-from_get_or (λ (c : Column). has c.orders o ≡ false) (take k (columns_of p)) nothing
          (λ i h. let below : i < k = omega (arith, h, length-earlier k l) in ap (λ (c : Column). has c.orders o) (earlier_at k i below l) ∙ has_order m p fair i o within ∙ ne_eqb (get_or p.place o 0) i (λ q. omega (arith, q, here, below)))))
          placed

      too_late : (j o : ℕ) → k ≤ j → j < length p.kinds → get_or (slab p j).orders 0 0 ≤ o → o < get_or (slab p k).orders 0 0 → ⊥
      too_late j o above there head h =
          let same : k + (j - k) ≡ j = omega (arith, above) in
          let up : first_order p k ≤ first_order p j = subst (λ x. first_order p k ≤ first_order p x) same (later_first k (j - k) (omega (arith, same, there))) in
          omega (arith, up, first_head k l, first_head j there, head, h)

      least_here : (o : ℕ) → o < get_or (slab p k).orders 0 0 → IsPlaced (take k (columns_of p)) o
      least_here o h =
          let first : get_or (slab p k).orders 0 0 < length m.orders = has_below 0 (length m.orders) (slab p k).orders (get_or (slab p k).orders 0 0) (rises_at k) (head_has (slab p k).orders (fair.fits k l).some) in
          let within : o < length m.orders = omega (arith, h, first) in
          let there : get_or p.place o 0 < length p.kinds = on_a_slab m p fair o within in
          let has_it : has (slab p (get_or p.place o 0)).orders o ≡ true = has_order m p fair (get_or p.place o 0) o within ∙ eq-eqb (get_or p.place o 0) (get_or p.place o 0) refl in
          let head : get_or (slab p (get_or p.place o 0)).orders 0 0 ≤ o = head_least 0 (length m.orders) (slab p (get_or p.place o 0)).orders o (rises_at (get_or p.place o 0)) has_it in
          elim (cases_lt (get_or p.place o 0) k) [
            | inl below ↦ placed_at (take k (columns_of p)) (get_or p.place o 0) o (omega (arith, below, length-earlier k l)) (subst (λ (c : Column). has c.orders o ≡ true) (sym (earlier_at k (get_or p.place o 0) below l)) has_it)
            | inr above ↦ absurd (too_late (get_or p.place o 0) o above there head h)
          ]

  all_placed : AreAllPlaced m (columns_of p)
  all_placed o h =
      let there : get_or p.place o 0 < length p.kinds = on_a_slab m p fair o h in
      placed_at (columns_of p) (get_or p.place o 0) o (omega (arith, there, length-columns)) (subst (λ (c : Column). has c.orders o ≡ true) (sym (column_at (get_or p.place o 0) there)) (has_order m p fair (get_or p.place o 0) o h ∙ eq-eqb (get_or p.place o 0) (get_or p.place o 0) refl))

pub slabs_from_plan : (m : Mill) (p : Plan) → IsLegal m p → IsInOrder p → AreSlabs m (columns_of p) × AreAllPlaced m (columns_of p) × (kinds_of (columns_of p) ≡ p.kinds)
slabs_from_plan m p fair order = (
  λ k l. let h : k < length p.kinds = omega (arith, l, length-columns m p fair order) in subst (λ c. IsNextSlab m (take k (columns_of p)) c) (sym (column_at m p fair order k h)) (next_slab m p fair order k h),
  all_placed m p fair order,
  same_kinds m p fair order,
)
