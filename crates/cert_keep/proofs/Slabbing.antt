-- Slabs, one after another, make the plan that they are of.
use Rattle.std.proofs.Common.{◌≡◌, ◌||◌, ℕ, zero, suc, ◌+◌, ◌<◌, ◌≤◌, ◌^◌, ℤ, pos, Bool, true, false, cond, eqb, set, List, [], ◌∷◌, ◌++◌, map, length, get_or, take, drop, All, w64, to_z, of_z, rules, ◌-◌, refl, sym, ap, ap₂, ◌∙◌, subst, arith, append_assoc, append-nil, inl, inr}
use Rattle.std.specs.List.{range_with_len}
use Rattle.std.proofs.lemmas.List.{length-set, get_or-set_same, get_or-set_other, ext_get_or, length-append, length-replicate, take_all}
use Rattle.std.proofs.lemmas.Bool.{cases_Bool, eqb-true, eqb-false}
use Rattle.std.proofs.lemmas.List.Elements.{All-weaker, All-get_or, All-take, All-drop}
use Rattle.std.proofs.lemmas.Int.{ints}
use Rattle.std.proofs.Math.Facts.{to_z-of_z}
use Rattle.mill_model.specs.Prices.{IsPrice, ArePrices, prices_of}
use Rattle.cert_view.specs.Number.{IsWithin}
use Rattle.mill_model.specs.declared.kind.Kind.TheVariants.{New}
use Rattle.mill_model.specs.Mill.{Mill, IsInLimits, IsBetween}
use Rattle.mill_model.specs.Columns.{Column, Rises, has, IsInStock}
use Rattle.mill_model.specs.Plans.{Plan, IsLegal, IsInOrder, slab}
use Rattle.mill_model.proofs.Slabs.{has_order, on_a_slab}
use Rattle.cert_text.specs.Lines.{number, columns_of}
use Rattle.cert_rules.specs.Slabs.{kinds_of}
use Rattle.cert_rules.proofs.Asks.{index_number}
use Rattle.cert_rules.proofs.Slabs.{slabs_from_plan}
use Rattle.cert_keep.specs.Building.{fit, index16, natural16, orders16, empty_plan, put_on, add_slab}

-- ---- numbers

fit_small : (bits n : ℕ) → n < 2 ^ bits → fit bits n ≡ n
fit_small bits n h = grind arith

pub index16_number : (i : ℕ) → i ≤ 10000 → index16 (number i) ≡ i
index16_number i h = ap (λ k. fit 16 k) (index_number i) ∙ fit_small 16 i (omega (arith, h))

pub natural16_small : (n : ℕ) → n ≤ 10000 → natural16 (pos n) ≡ n
natural16_small n h = fit_small 16 n (omega (arith, h))

pub loss_small : (n : ℕ) → n ≤ 2500000 → fit 32 n ≡ n
loss_small n h = fit_small 32 n (omega (arith, h))

pub orders16_rising : (low n : ℕ) (os : List ℕ) → n ≤ 250 → Rises low n os → orders16 (map number os) ≡ os
orders16_rising low n [] l h = refl
orders16_rising low n (o ∷ os) l h = ap₂ (λ (a : ℕ) (b : List ℕ). a ∷ b) (index16_number o (omega (arith, l, h.1))) (orders16_rising (o + 1) n os l h.2)

pub size_small : (m : Mill) (size : ℕ) → IsInLimits m → IsInStock m (New size) → size ≤ 10000
size_small m size limited h = subst (λ n. n ≤ 10000) h.2 (All-get_or (IsBetween 1 10000) m.sizes h.0 size h.1 limited.sizes).1

-- ---- places

put_length : (place : List ℕ) (k : ℕ) (os : List ℕ) → length (put_on place k os) ≡ length place
put_length place k [] = refl
put_length place k (o ∷ os) = put_length (set place o k) k os ∙ length-set place o k

put_at : (os place : List ℕ) (k o : ℕ) → o < length place → get_or (put_on place k os) o 0 ≡ cond (has os o) k (get_or place o 0)
put_at [] place k o h = refl
put_at (x ∷ os) place k o h =
    let next : get_or (put_on (set place x k) k os) o 0 ≡ cond (has os o) k (get_or (set place x k) o 0) = put_at os (set place x k) k o (omega (arith, h, length-set place x k)) in
    elim (cases_Bool (eqb x o)) [
      | inl e ↦ let same : x ≡ o = eqb-true x o e in
          let here : get_or (set place x k) o 0 ≡ k = subst (λ y. get_or (set place y k) o 0 ≡ k) (sym same) (get_or-set_same place o k 0 h) in
          next ∙ ap (λ z. cond (has os o) k z) here ∙ either (has os o) ∙ sym (ap (λ b. cond (b || has os o) k (get_or place o 0)) e)
      | inr e ↦ next ∙ ap (λ z. cond (has os o) k z) (get_or-set_other place x o k 0 (λ same. eqb-false x o e (sym same))) ∙ sym (ap (λ b. cond (b || has os o) k (get_or place o 0)) e)
    ]
  where
    either : (b : Bool) → cond b k k ≡ k
    either true = refl
    either false = refl

-- ---- plans

-- a plan with these slabs more
abbrev pub add_slabs : Plan → List Column → Plan
add_slabs q [] = q
add_slabs q (c ∷ cs) = add_slabs (add_slab q c.kind c.orders) cs

kinds_added : (cs : List Column) (q : Plan) → (add_slabs q cs).kinds ≡ q.kinds ++ kinds_of cs
kinds_added [] q = sym (append-nil q.kinds)
kinds_added (c ∷ cs) q = kinds_added cs (add_slab q c.kind c.orders) ∙ append_assoc q.kinds (c.kind ∷ []) (kinds_of cs)

module _ (m : Mill) (limited : IsInLimits m) (p : Plan) (legal : IsLegal m p) where
  -- the first k slabs of the plan lie there
  record HasFirst (k : ℕ) (q : Plan) : Type 0 where
    count : length q.kinds ≡ k
    long : length q.place ≡ length m.orders
    at : (o : ℕ) → o < length m.orders → get_or p.place o 0 < k → get_or q.place o 0 ≡ get_or p.place o 0

  next_first : (k : ℕ) (q : Plan) → k ≤ 10000 → HasFirst k q → HasFirst (k + 1) (add_slab q (slab p k).kind (slab p k).orders)
  next_first k q few h = record {
    count = omega (arith, length-append q.kinds ((slab p k).kind ∷ []), h.count);
    long = put_length q.place (fit 16 (length q.kinds)) (slab p k).orders ∙ h.long;
    at = at;
  }
    where
      fits : fit 16 (length q.kinds) ≡ k
      fits = fit_small 16 (length q.kinds) (omega (arith, few, h.count)) ∙ h.count

      at : (o : ℕ) → o < length m.orders → get_or p.place o 0 < k + 1 → get_or (put_on q.place (fit 16 (length q.kinds)) (slab p k).orders) o 0 ≡ get_or p.place o 0
      at o l below =
          let put : get_or (put_on q.place (fit 16 (length q.kinds)) (slab p k).orders) o 0 ≡ cond (has (slab p k).orders o) (fit 16 (length q.kinds)) (get_or q.place o 0) = put_at (slab p k).orders q.place (fit 16 (length q.kinds)) o (omega (arith, l, h.long)) in
          let here : has (slab p k).orders o ≡ eqb (get_or p.place o 0) k = has_order m p legal k o l in
          elim (cases_Bool (eqb (get_or p.place o 0) k)) [
            | inl e ↦ put ∙ ap (λ b. cond b (fit 16 (length q.kinds)) (get_or q.place o 0)) (here ∙ e) ∙ (fits ∙ sym (eqb-true (get_or p.place o 0) k e))
            | inr e ↦ put ∙ ap (λ b. cond b (fit 16 (length q.kinds)) (get_or q.place o 0)) (here ∙ e) ∙ h.at o l (omega (arith, below, eqb-false (get_or p.place o 0) k e))
          ]

  all_first : (j k : ℕ) (q : Plan) → k + j ≤ 10000 → HasFirst k q → HasFirst (k + j) (add_slabs q (map (slab p) (range_with_len k j)))
  all_first zero k q few h = subst (λ n. HasFirst n q) (omega arith) h
  all_first (suc j) k q few h =
      subst (λ n. HasFirst n (add_slabs q (map (slab p) (range_with_len k (suc j))))) (omega arith) (all_first j (k + 1) (add_slab q (slab p k).kind (slab p k).orders) (omega (arith, few)) (next_first k q (omega (arith, few)) h))

  pub slabs_make_plan : IsInOrder p → length p.kinds ≤ 10000 → add_slabs (empty_plan (length m.orders)) (columns_of p) ≡ p
  slabs_make_plan order few = λ i. record { kinds = kinds i; place = place i }
    where
      made : Plan
      made = add_slabs (empty_plan (length m.orders)) (columns_of p)

      first : HasFirst (length p.kinds) made
      first = subst (λ n. HasFirst n made) (omega arith) (all_first (length p.kinds) 0 (empty_plan (length m.orders)) (omega (arith, few)) (record { count = refl; long = length-replicate (length m.orders) 0; at = λ o l below. absurd (omega (arith, below)) }))

      kinds : made.kinds ≡ p.kinds
      kinds = kinds_added (columns_of p) (empty_plan (length m.orders)) ∙ (slabs_from_plan m p legal order).2

      place : made.place ≡ p.place
      place = ext_get_or 0 made.place p.place (first.long ∙ sym legal.places) (λ o l. let h : o < length m.orders = omega (arith, l, first.long) in first.at o h (on_a_slab m p legal o h))

-- ---- prices

-- a number that is written and read again
written : (z : ℤ) → IsWithin z → to_z w64 (of_z w64 z) ≡ z
written z h = to_z-of_z {w = w64} {z = z} (search (rules, h))

-- numbers that were split are prices
pub split_is : (n : ℕ) (l u : ℤ) (rest pi sigma : List ℤ) → All IsWithin (l ∷ u ∷ rest) → pi ≡ take n rest → sigma ≡ drop n rest → record { lambda = to_z w64 (of_z w64 l); mu = to_z w64 (of_z w64 u); pi = pi; sigma = sigma } ≡ prices_of n (l ∷ u ∷ rest)
split_is n l u rest pi sigma within first second =
    let two : 2 + n ≡ suc (suc n) = omega arith in
    let lambda = written l (within 0 (pos 0) (omega arith)) in
    let mu = written u (within 1 (pos 0) (omega arith)) in
    rw two (λ i. record { lambda = lambda i; mu = mu i; pi = first i; sigma = second i })

-- the first two numbers and those after them are all
pub read_back : (ns : List ℤ) → 2 ≤ length ns → All IsWithin ns → to_z w64 (of_z w64 (get_or ns 0 (pos 0))) ∷ (to_z w64 (of_z w64 (get_or ns 1 (pos 0))) ∷ take (length ns - 2) (drop 2 ns)) ≡ ns
read_back [] few within = absurd (omega (arith, few))
read_back (a ∷ []) few within = absurd (omega (arith, few))
read_back (a ∷ b ∷ rest) few within =
    let long : length (a ∷ b ∷ rest) - 2 ≡ length rest = omega arith in
    let others : take (length (a ∷ b ∷ rest) - 2) rest ≡ rest = subst (λ (k : ℕ). take k rest ≡ rest) (sym long) (take_all (length rest) rest (omega arith)) in
    let first = written a (within 0 (pos 0) (omega arith)) in
    let second = written b (within 1 (pos 0) (omega arith)) in
    λ i. first i ∷ (second i ∷ others i)

pub are_prices : (n : ℕ) (ns : List ℤ) → 2 ≤ length ns → All IsWithin ns → ArePrices (prices_of n ns)
are_prices n ns few within =
    let all : All IsPrice ns = All-weaker IsWithin IsPrice within_price ns within in
    record {
      lambda = All-get_or IsPrice ns 0 _ (omega (arith, few)) all;
      mu = All-get_or IsPrice ns 1 _ (omega (arith, few)) all;
      pi = All-take IsPrice n (drop 2 ns) (All-drop IsPrice 2 ns all);
      sigma = All-drop IsPrice (2 + n) ns all;
    }
  where
    within_price : (z : ℤ) → IsWithin z → IsPrice z
    within_price z h = (omega (arith, ints), omega (arith, ints))
