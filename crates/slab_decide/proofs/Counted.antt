-- A column has the whole group of a node exactly where as many of its nodes lie in that group as the group has.
use Rattle.std.proofs.Common.{◌≡◌, ℕ, zero, suc, ◌+◌, ◌-◌, ◌<◌, ◌≤◌, Bool, true, false, ◌&&◌, eqb, List, [], ◌∷◌, refl, sym, ap, ◌∙◌, subst, inl, inr, arith, length, get_or, ◌||◌}
use Rattle.std.specs.Prelude.{All, slice_index}
use Rattle.std.specs.List.{count_by}
use Rattle.std.proofs.lemmas.List.Sums.{sum_by-cons}
use Rattle.std.proofs.lemmas.List.{get_or_default}
use Rattle.std.proofs.lemmas.Bool.{cases_eq, cases_lt, both_ways, ne_eqb, eqb-true, eq-eqb}
use Rattle.mill_model.specs.declared.kind.Kind.{Kind}
use Rattle.mill_model.specs.declared.kind.Kind.TheVariants.{New, Old}
use Rattle.mill_model.specs.Columns.{Column, has, is_old, Rises}
use Rattle.slab_closure.specs.declared.relation.Relation.{Relation}
use Rattle.slab_closure.specs.declared.relation.Relation.TheVariants.{Open, Same, Apart}
use Rattle.slab_closure.specs.Cells.{is_same}
use Rattle.slab_closure.specs.Relations.{Table}
use Rattle.slab_closure.specs.Sizes.{count_from, size_in}
use Rattle.slab_closure.proofs.Counting.{one, one_at_most}
use Rattle.slab_decide.specs.Whole.{has_node, IsRowWhole, IsSlabNode, AreNodes, IsSlabBeside, AreOrdersBeside, slab_in_group, orders_in_group}
use Rattle.slab_decide.proofs.Allowing.{order_node, slab_node, suits_same, suits_apart, suits_from, has_at, at_has}
use Rattle.slab_decide.proofs.Bridge.{high_choice}

-- tests that answer alike count alike
count_same : (f g : ℕ → Bool) (low k : ℕ) → ((y : ℕ) → low ≤ y → y < low + k → f y ≡ g y) → count_from f low k ≡ count_from g low k
count_same f g low zero h = refl
count_same f g low (suc k) h =
    let first : one (f low) ≡ one (g low) = ap one (h low (omega arith) (omega arith)) in
    omega (arith, first, count_same f g (low + 1) k (λ y p q. h y (omega (arith, p)) (omega (arith, q))))

count_none : (f : ℕ → Bool) (low k : ℕ) → ((y : ℕ) → low ≤ y → y < low + k → f y ≡ false) → count_from f low k ≡ 0
count_none f low zero h = refl
count_none f low (suc k) h =
    let first : one (f low) ≡ 0 = ap one (h low (omega arith) (omega arith)) in
    omega (arith, first, count_none f (low + 1) k (λ y p q. h y (omega (arith, p)) (omega (arith, q))))

count_two : (f : ℕ → Bool) (low j k : ℕ) → count_from f low (j + k) ≡ count_from f low j + count_from f (low + j) k
count_two f low zero k =
    let there : low + 0 ≡ low = omega arith in
    let same : count_from f (low + 0) k ≡ count_from f low k = ap (λ n. count_from f n k) there in
    let all : count_from f low (0 + k) ≡ count_from f low k = ap (count_from f low) (omega arith) in
    omega (arith, same, all)
count_two f low (suc j) k =
    let there : low + 1 + j ≡ low + suc j = omega arith in
    let same : count_from f (low + 1 + j) k ≡ count_from f (low + suc j) k = ap (λ n. count_from f n k) there in
    let size : suc j + k ≡ suc (j + k) = omega arith in
    let all : count_from f low (suc j + k) ≡ one (f low) + count_from f (low + 1) (j + k) = ap (count_from f low) size in
    omega (arith, all, count_two f (low + 1) j k, same)

one_le : (p q : Bool) → (q ≡ true → p ≡ true) → one q ≤ one p
one_le true q h = one_at_most q
one_le false true h = absurd (both_ways false refl (h refl))
one_le false false h = omega arith

one_eq : (p q : Bool) → one p ≤ one q → p ≡ true → q ≡ true
one_eq p true h e = refl
one_eq true false h e = absurd (omega (arith, h))
one_eq false false h e = cc

-- what passes a narrower test is no more
count_le : (f g : ℕ → Bool) (low k : ℕ) → ((y : ℕ) → g y ≡ true → f y ≡ true) → count_from g low k ≤ count_from f low k
count_le f g low zero h = omega arith
count_le f g low (suc k) h = omega (arith, one_le (f low) (g low) (h low), count_le f g (low + 1) k h)

-- and where it is as many, it is the same numbers
count_all : (f g : ℕ → Bool) (low k : ℕ) → ((y : ℕ) → g y ≡ true → f y ≡ true) → count_from f low k ≤ count_from g low k → (y : ℕ) → low ≤ y → y < low + k → f y ≡ true → g y ≡ true
count_all f g low zero h le y p q e = absurd (omega (arith, p, q))
count_all f g low (suc k) h le y p q e = elim (cases_eq y low) [
  | inl same ↦
      let first : one (f low) ≤ one (g low) = omega (arith, le, count_le f g (low + 1) k h) in
      subst (λ z. g z ≡ true) (sym same) (one_eq (f low) (g low) first (subst (λ z. f z ≡ true) same e))
  | inr other ↦
      let later : count_from f (low + 1) k ≤ count_from g (low + 1) k = omega (arith, le, one_le (f low) (g low) (h low)) in
      count_all f g (low + 1) k h later y (omega (arith, p, other)) (omega (arith, q)) e
]

-- a rising list doesn't have a number below it
has_below : (low high y : ℕ) (xs : List ℕ) → Rises low high xs → y < low → has xs y ≡ false
has_below low high y [] r lt = refl
has_below low high y (x ∷ xs) r lt =
    let other : eqb x y ≡ false = ne_eqb x y (λ e. omega (arith, e, r.0, lt)) in
    rw other (has_below (x + 1) high y xs r.2 (omega (arith, r.0, lt)))

and_false : (b : Bool) → (b && false) ≡ false
and_false true = refl
and_false false = refl

and_true : (b : Bool) → (b && true) ≡ b
and_true true = refl
and_true false = refl

and_first : (p q : Bool) → (p && q) ≡ true → p ≡ true
and_first true q e = refl
and_first false q e = e

and_second : (p q : Bool) → (p && q) ≡ true → q ≡ true
and_second true q e = e
and_second false q e = cc

and_both : (p q : Bool) → (p ≡ true → q ≡ true) → (p && q) ≡ p
and_both true q h = h refl
and_both false q h = refl

count_by_cons : (test : ℕ → Bool) (x : ℕ) (xs : List ℕ) → count_by test (x ∷ xs) ≡ one (test x) + count_by test xs
count_by_cons test x xs = sum_by-cons (λ (o : ℕ). one (test o)) x xs

-- of rising numbers as many pass a test as of all that are in the list
count_listed : (test : ℕ → Bool) (low k : ℕ) (xs : List ℕ) → Rises low (low + k) xs → count_from (λ (y : ℕ). test y && has xs y) low k ≡ count_by test xs
count_listed test low zero [] r = refl
count_listed test low zero (x ∷ xs) r = absurd (omega (arith, r.0, r.1))
count_listed test low (suc k) [] r = count_none (λ (y : ℕ). test y && false) low (suc k) (λ y p q. and_false (test y))
count_listed test low (suc k) (x ∷ xs) r = elim (cases_eq x low) [
  | inl same ↦
      let rest : Rises (low + 1) (low + 1 + k) xs = subst (λ n. Rises (low + 1) n xs) (omega arith) (subst (λ n. Rises (n + 1) (low + suc k) xs) same r.2) in
      let head : eqb x low ≡ true = eq-eqb x low same in
      let first : one (test low && has (x ∷ xs) low) ≡ one (test x) = rw (head, and_true (test low)) (ap (λ n. one (test n)) (sym same)) in
      let alike : count_from (λ (y : ℕ). test y && has (x ∷ xs) y) (low + 1) k ≡ count_from (λ (y : ℕ). test y && has xs y) (low + 1) k =
      count_same (λ (y : ℕ). test y && has (x ∷ xs) y) (λ (y : ℕ). test y && has xs y) (low + 1) k (λ y p q. let other : eqb x y ≡ false = ne_eqb x y (λ e. omega (arith, e, p, same)) in rw other refl) in
      omega (arith, first, alike, count_listed test (low + 1) k xs rest, count_by_cons test x xs)
  | inr other ↦
      let high : Rises (low + 1) (low + 1 + k) (x ∷ xs) = (omega (arith, r.0, other), omega (arith, r.1), subst (λ n. Rises (x + 1) n xs) (omega arith) r.2) in
      let none : has (x ∷ xs) low ≡ false = has_below (low + 1) (low + 1 + k) low (x ∷ xs) high (omega arith) in
      let first : one (test low && has (x ∷ xs) low) ≡ 0 = ap (λ b. one (test low && b)) none ∙ ap one (and_false (test low)) in
      omega (arith, first, count_listed test (low + 1) k (x ∷ xs) high)
]

count_shift : (f : ℕ → Bool) (by low k : ℕ) → count_from f (by + low) k ≡ count_from (λ (o : ℕ). f (by + o)) low k
count_shift f by low zero = refl
count_shift f by low (suc k) =
    let there : by + low + 1 ≡ by + (low + 1) = omega arith in
    let same : count_from f (by + low + 1) k ≡ count_from f (by + (low + 1)) k = ap (λ n. count_from f n k) there in
    omega (arith, same, count_shift f by (low + 1) k)

-- how many of the column's slab, which is one or none, pass a test
abbrev slabs_that : (ℕ → Bool) → Kind → ℕ
slabs_that test (New size) = 0
slabs_that test (Old s) = one (test s)

slab_counted : (test : ℕ → Bool) (yard : ℕ) (kind : Kind) → IsSlabNode yard kind → count_from (λ (y : ℕ). test y && is_old y kind) 0 yard ≡ slabs_that test kind
slab_counted test yard (New size) h = count_none (λ (y : ℕ). test y && false) 0 yard (λ y p q. and_false (test y))
slab_counted test yard (Old s) h =
    let alike : count_from (λ (y : ℕ). test y && eqb s y) 0 yard ≡ count_from (λ (y : ℕ). test y && has (s ∷ []) y) 0 yard =
    count_same (λ (y : ℕ). test y && eqb s y) (λ (y : ℕ). test y && has (s ∷ []) y) 0 yard (λ y p q. ap (λ b. test y && b) (alone y)) in
    let listed : count_from (λ (y : ℕ). test y && has (s ∷ []) y) 0 yard ≡ count_by test (s ∷ []) = count_listed test 0 yard (s ∷ []) (omega arith, omega (arith, h), tt) in
    omega (arith, alike, listed, count_by_cons test s [])
  where
    or_none : (b : Bool) → b ≡ (b || false)
    or_none true = refl
    or_none false = refl

    alone : (y : ℕ) → eqb s y ≡ has (s ∷ []) y
    alone y = or_none (eqb s y)

orders_counted : (test : ℕ → Bool) (yard k : ℕ) (orders : List ℕ) → Rises 0 k orders → count_from (λ (y : ℕ). test y && has orders (y - yard)) yard k ≡ count_by (λ (o : ℕ). test (yard + o)) orders
orders_counted test yard k orders r =
    let start : yard + 0 ≡ yard = omega arith in
    let all : Rises 0 (0 + k) orders = subst (λ n. Rises 0 n orders) (omega arith) r in
    let shifted : count_from (λ (y : ℕ). test y && has orders (y - yard)) (yard + 0) k ≡ count_from (λ (o : ℕ). test (yard + o) && has orders (yard + o - yard)) 0 k =
    count_shift (λ (y : ℕ). test y && has orders (y - yard)) yard 0 k in
    let same : count_from (λ (y : ℕ). test y && has orders (y - yard)) (yard + 0) k ≡ count_from (λ (y : ℕ). test y && has orders (y - yard)) yard k =
    ap (λ n. count_from (λ (y : ℕ). test y && has orders (y - yard)) n k) start in
    let back : count_from (λ (o : ℕ). test (yard + o) && has orders (yard + o - yard)) 0 k ≡ count_from (λ (o : ℕ). test (yard + o) && has orders o) 0 k =
    count_same (λ (o : ℕ). test (yard + o) && has orders (yard + o - yard)) (λ (o : ℕ). test (yard + o) && has orders o) 0 k (λ o p q. let e : yard + o - yard ≡ o = omega arith in ap (λ z. test (yard + o) && has orders z) e) in
    omega (arith, shifted, same, back, count_listed (λ (o : ℕ). test (yard + o)) 0 k orders all)

module _ (n yard : ℕ) (at : Table) (kind : Kind) (orders : List ℕ) (nodes : AreNodes n yard kind orders) where
  column : Column
  column = record { kind = kind; orders = orders }

  inside : ℕ → Bool
  inside y = has_node yard (record { kind = kind; orders = orders }) y

  low : (y : ℕ) → y < yard → has_node yard (record { kind = kind; orders = orders }) y ≡ is_old y kind
  low y h = slab_node yard (record { kind = kind; orders = orders }) y h

  high : (y : ℕ) → yard ≤ y → has_node yard (record { kind = kind; orders = orders }) y ≡ has orders (y - yard)
  high y h = high_choice y yard (is_old y kind) (has orders (y - yard)) h

  all_counted : (test : ℕ → Bool) → count_from (λ (y : ℕ). test y && has_node yard (record { kind = kind; orders = orders }) y) 0 n ≡ slabs_that test kind + count_by (λ (o : ℕ). test (yard + o)) orders
  all_counted test =
      let f : ℕ → Bool = λ (y : ℕ). test y && has_node yard (record { kind = kind; orders = orders }) y in
      let size : yard + (n - yard) ≡ n = omega (arith, nodes.within) in
      let whole : count_from f 0 (yard + (n - yard)) ≡ count_from f 0 n = ap (count_from f 0) size in
      let two : count_from f 0 (yard + (n - yard)) ≡ count_from f 0 yard + count_from f (0 + yard) (n - yard) = count_two f 0 yard (n - yard) in
      let there : 0 + yard ≡ yard = omega arith in
      let moved : count_from f (0 + yard) (n - yard) ≡ count_from f yard (n - yard) = ap (λ z. count_from f z (n - yard)) there in
      let slabs : count_from f 0 yard ≡ count_from (λ (y : ℕ). test y && is_old y kind) 0 yard = count_same f (λ (y : ℕ). test y && is_old y kind) 0 yard (λ y p q. ap (λ b. test y && b) (low y (omega (arith, q)))) in
      let rest : count_from f yard (n - yard) ≡ count_from (λ (y : ℕ). test y && has orders (y - yard)) yard (n - yard) = count_same f (λ (y : ℕ). test y && has orders (y - yard)) yard (n - yard) (λ y p q. ap (λ b. test y && b) (high y p)) in
      omega (arith, whole, two, moved, slabs, rest, slab_counted test yard kind nodes.slab, orders_counted test yard (n - yard) orders nodes.rises)

  found_is : (x : ℕ) → slab_in_group at kind x + orders_in_group at yard orders x ≡ slabs_that (λ (y : ℕ). is_same (at x y)) kind + count_by (λ (o : ℕ). is_same (at x (yard + o))) orders
  found_is x = by_kind kind
    where
      by_kind : (k : Kind) → slab_in_group at k x + orders_in_group at yard orders x ≡ slabs_that (λ (y : ℕ). is_same (at x y)) k + count_by (λ (o : ℕ). is_same (at x (yard + o))) orders
      by_kind (New size) = refl
      by_kind (Old s) = refl

  same_test : (r : Relation) → r ≡ Same → is_same r ≡ true
  same_test Open e = cc
  same_test Same e = refl
  same_test Apart e = cc

  test_same : (r : Relation) → is_same r ≡ true → r ≡ Same
  test_same Open e = cc
  test_same Same e = refl
  test_same Apart e = cc

  beside : (x : ℕ) → IsSlabBeside at kind x → AreOrdersBeside at yard orders x → (y : ℕ) → has_node yard (record { kind = kind; orders = orders }) y ≡ true → at x y ≡ Apart → ⊥
  beside x slab os y e apart = elim (cases_lt y yard) [
    | inl less ↦ on_slab kind slab (sym (low y less) ∙ e)
    | inr more ↦
        let there = has_at orders (y - yard) (sym (high y more) ∙ e) in
        let place : yard + slice_index orders there.0 ≡ y = omega (arith, there.2, more) in
        os there.0 0 there.1 (ap (at x) place ∙ apart)
  ]
    where
      on_slab : (k : Kind) → IsSlabBeside at k x → is_old y k ≡ true → ⊥
      on_slab (New size) s q = cc
      on_slab (Old t) s q = s (ap (at x) (eqb-true t y q) ∙ apart)

  pub row_whole : (x : ℕ) → IsSlabBeside at kind x → AreOrdersBeside at yard orders x → slab_in_group at kind x + orders_in_group at yard orders x ≡ size_in n at x → IsRowWhole n at (has_node yard (record { kind = kind; orders = orders })) x
  row_whole x slab os size y h = suits_from (at x y) (has_node yard (record { kind = kind; orders = orders }) y)
      (λ same. and_second (is_same (at x y)) (has_node yard (record { kind = kind; orders = orders }) y) (count_all (λ (z : ℕ). is_same (at x z)) (λ (z : ℕ). is_same (at x z) && has_node yard (record { kind = kind; orders = orders }) z) 0 n
      (λ z e. and_first (is_same (at x z)) (has_node yard (record { kind = kind; orders = orders }) z) e) (omega (arith, size, found_is x, all_counted (λ (z : ℕ). is_same (at x z)))) y (omega arith) (omega (arith, h)) (same_test (at x y) same)))
      (λ apart e. beside x slab os y e apart)

  pub whole_slab : (x : ℕ) → IsRowWhole n at (has_node yard (record { kind = kind; orders = orders })) x → IsSlabBeside at kind x
  whole_slab x whole = by_kind kind refl
    where
      by_kind : (k : Kind) → kind ≡ k → IsSlabBeside at k x
      by_kind (New size) e = tt
      by_kind (Old s) e = λ apart.
          let node : s < yard = subst (IsSlabNode yard) e nodes.slab in
          suits_apart (at x s) (has_node yard (record { kind = kind; orders = orders }) s) (whole s (omega (arith, node, nodes.within))) apart (low s node ∙ ap (is_old s) e ∙ eq-eqb s s refl)

  orders_among : (o k high : ℕ) (xs : List ℕ) → Rises o high xs → k < length xs → slice_index xs k < high
  orders_among o k high [] r h = absurd (omega (arith, h))
  orders_among o zero high (x ∷ xs) r h = r.1
  orders_among o (suc k) high (x ∷ xs) r h = orders_among (x + 1) k high xs r.2 (omega (arith, h))

  pub orders_in_range : All (λ o. yard + o < n) orders
  orders_in_range k d h =
      let same : get_or orders k d ≡ slice_index orders k = get_or_default orders k d 0 h in
      omega (arith, same, orders_among 0 k (n - yard) orders nodes.rises h, nodes.within)

  pub whole_orders : (x : ℕ) → IsRowWhole n at (has_node yard (record { kind = kind; orders = orders })) x → AreOrdersBeside at yard orders x
  whole_orders x whole k d h apart =
      let o : ℕ = slice_index orders k in
      let same : get_or orders k d ≡ o = get_or_default orders k d 0 h in
      let there : at x (yard + o) ≡ Apart = ap (λ z. at x (yard + z)) (sym same) ∙ apart in
      suits_apart (at x (yard + o)) (has_node yard (record { kind = kind; orders = orders }) (yard + o)) (whole (yard + o) (omega (arith, orders_among 0 k (n - yard) orders nodes.rises h, nodes.within))) there (order_node yard (record { kind = kind; orders = orders }) o ∙ at_has orders k h)

  pub whole_size : (x : ℕ) → IsRowWhole n at (has_node yard (record { kind = kind; orders = orders })) x → slab_in_group at kind x + orders_in_group at yard orders x ≡ size_in n at x
  whole_size x whole =
      let alike : count_from (λ (z : ℕ). is_same (at x z) && has_node yard (record { kind = kind; orders = orders }) z) 0 n ≡ count_from (λ (z : ℕ). is_same (at x z)) 0 n =
      count_same (λ (z : ℕ). is_same (at x z) && has_node yard (record { kind = kind; orders = orders }) z) (λ (z : ℕ). is_same (at x z)) 0 n
      (λ z p q. and_both (is_same (at x z)) (has_node yard (record { kind = kind; orders = orders }) z) (λ e. suits_same (at x z) (has_node yard (record { kind = kind; orders = orders }) z) (whole z (omega (arith, q))) (test_same (at x z) e))) in
      omega (arith, alike, found_is x, all_counted (λ (z : ℕ). is_same (at x z)))
