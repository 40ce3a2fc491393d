-- The plan of groups: its slabs are the groups' columns, it is legal where these fit, and its sums are theirs.
use Rattle.std.proofs.Common.{◌≡◌, ℕ, zero, suc, ◌<◌, ◌≤◌, ℤ, pos, ◌+ℤ◌, Bool, true, false, cond, ◌||◌, eqb, List, [], ◌∷◌, length, get_or, sum_by, count_by, refl, sym, ap, ap₂, ◌∙◌, subst, inl, inr, arith, Option, Some, None}
use Rattle.std.specs.List.{position_or_len}
use Rattle.std.proofs.lemmas.Int.{ints}
use Rattle.std.proofs.lemmas.List.Sums.{passes_at_first}
use Rattle.std.proofs.lemmas.Bool.{eqb-true, eq-eqb, ne_eqb, cases_eq, cond-true}
use Rattle.mill_model.specs.declared.order.Order.{Order}
use Rattle.mill_model.specs.declared.kind.Kind.{Kind}
use Rattle.mill_model.specs.declared.kind.Kind.TheVariants.{New, Old}
use Rattle.mill_model.specs.Mill.{Mill}
use Rattle.mill_model.specs.Columns.{Column, Fits, has, is_old, load, loss_of, size_of, order_at}
use Rattle.mill_model.specs.Plans.{Plan, places_of, slab, is_new, IsLegal, IsInOrder, sums_of}
use Rattle.mill_model.specs.SignedSums.{total_below}
use Rattle.pricing_laws.specs.Groups.{head_of}
use Rattle.mill_model.proofs.Signed.{total_by_at, total_by-pos, total_below-ext, total_below-add, total_below-zero}
use Rattle.mill_model.proofs.Duality.{column_total, one_term}
use Rattle.mill_model.proofs.Slabs.{places_rise, has_places}
use Rattle.pricing_laws.proofs.Groups.{members_rise, has-members}
use Rattle.mill_model.proofs.Rising.{same_members}
use Rattle.mill_model.proofs.Judging.{once_from_pairs}
use Rattle.mill_model.proofs.PlanCover.{weights_within_sizes}
use Rattle.slab_node.specs.Grouped.{AreGrouped, AreKinds, IsKindFor, slab_at, kind_at, group_of, group_column}
use Rattle.slab_node.specs.Built.{IsBuilt}
use Rattle.slab_node.specs.Stated.{at_heads}

pub same_bool : (x y : Bool) → (x ≡ true → y ≡ true) → (y ≡ true → x ≡ true) → x ≡ y
same_bool true y f g = sym (f refl)
same_bool false true f g = g refl
same_bool false false f g = refl

only : (b : Bool) → (b || false) ≡ b
only true = refl
only false = refl

-- an order is in a group where that is its head's
pub has_group : (heads : List ℕ) (head o : ℕ) → o < length heads → has (group_of heads head) o ≡ eqb head (head_of heads o)
has_group heads head o h = has-members heads (head ∷ []) o h ∙ only (eqb head (head_of heads o))

-- the sums of a table by rows and by columns
swapped : (n k : ℕ) (f : ℕ → ℕ → ℤ) → total_below n (λ i. total_below k (λ j. f i j)) ≡ total_below k (λ j. total_below n (λ i. f i j))
swapped zero k f = sym (total_below-zero k)
swapped (suc n) k f = ap (λ (z : ℤ). z +ℤ total_below k (λ j. f n j)) (swapped n k f) ∙ sym (total_below-add k (λ j. total_below n (λ i. f i j)) (λ j. f n j))

module _ (m : Mill) (heads : List ℕ) (slabs : List (Option ℕ)) (kinds used : List Kind) (place : List ℕ) (grouped : AreGrouped m heads slabs) (are : AreKinds m heads slabs kinds) (built : IsBuilt heads kinds (length heads) used place) where
  abbrev plan : Plan
  plan = record { kinds = used; place = place }

  -- a slab of the plan with the group that lies on it
  pub record IsSlab (k : ℕ) : Type 0 where
    pub order : ℕ
    pub head : ℕ
    pub inside : order < length heads
    pub first : head < length m.orders
    pub own : head_of heads head ≡ head
    pub of : head_of heads order ≡ head
    pub there : get_or place order 0 ≡ k
    pub column : slab plan k ≡ group_column heads kinds head

  pub slab_is : (k : ℕ) → k < length used → IsSlab k
  slab_is k h = record { order = o; head = head_of heads o; inside = inside; first = first; own = grouped.grouping.fixed o inside; of = refl; there = there; column = ap₂ (λ (kind : Kind) (os : List ℕ). record { kind = kind; orders = os }) kind orders }
    where
      o : ℕ
      o = position_or_len (λ x. eqb x k) place

      inside : o < length heads
      inside = built.filled k h

      first : head_of heads o < length m.orders
      first = omega (arith, grouped.grouping.before o inside, grouped.heads_size, inside)

      there : get_or place o 0 ≡ k
      there = eqb-true (get_or place o 0) k (passes_at_first (λ x. eqb x k) place 0 (omega (arith, inside, built.size)))

      kind : kind_at used k ≡ kind_at kinds (head_of heads o)
      kind = ap (kind_at used) (sym there) ∙ built.kind o inside

      same : (j : ℕ) → j < length heads → has (places_of k 0 place) j ≡ has (group_of heads (head_of heads o)) j
      same j l =
          has_places k 0 place j j (omega arith) (omega (arith, built.size))
          ∙ same_bool (eqb (get_or place j 0) k) (eqb (head_of heads o) (head_of heads j))
          (λ e. eq-eqb (head_of heads o) (head_of heads j) (built.parted o j inside l (there ∙ sym (eqb-true (get_or place j 0) k e))))
          (λ e. eq-eqb (get_or place j 0) k (built.joined j o l inside (sym (eqb-true (head_of heads o) (head_of heads j) e)) ∙ there))
          ∙ sym (has_group heads (head_of heads o) j l)

      orders : places_of k 0 place ≡ group_of heads (head_of heads o)
      orders = same_members 0 (length heads) (places_of k 0 place) (group_of heads (head_of heads o)) (places_rise k 0 (length heads) place (omega (arith, built.size))) (members_rise heads (head_of heads o ∷ [])) same

  -- no surplus slab is used twice
  pub used_once : (s : ℕ) → count_by (is_old s) used ≤ 1
  used_once s = once_from_pairs (is_old s) used (New 0) (λ i j l u x y. twice i j (slab_is i (omega arith)) (slab_is j u) l x y)
    where
      old_slab : (slab : Option ℕ) (weight : ℕ) (kind : Kind) → IsKindFor m slab weight kind → is_old s kind ≡ true → slab ≡ Some s
      old_slab None weight (New u) is e = cc
      old_slab None weight (Old r) is e = absurd is
      old_slab (Some r) weight kind is e = ap Some (eqb-true r s (sym (ap (is_old s) is) ∙ e))

      on : (k : ℕ) (is : IsSlab k) → is_old s (get_or used k (New 0)) ≡ true → slab_at slabs is.head ≡ Some s
      on k is e = old_slab (slab_at slabs is.head) (load m (group_of heads is.head)) (kind_at kinds is.head) (are.each is.head is.first) (sym (ap (λ (c : Column). is_old s c.kind) is.column) ∙ e)

      twice : (i j : ℕ) (x : IsSlab i) (y : IsSlab j) → i < j → is_old s (get_or used i (New 0)) ≡ true → is_old s (get_or used j (New 0)) ≡ true → ⊥
      twice i j x y l p q =
          let heads_same : x.head ≡ y.head = grouped.once x.head y.head s x.first y.first x.own y.own (on i x p) (on j y q) in
          let places : get_or place x.order 0 ≡ get_or place y.order 0 = built.joined x.order y.order x.inside y.inside (x.of ∙ heads_same ∙ sym y.of) in
          omega (arith, x.there, y.there, places)

  -- where each group fits on its slab, the plan is legal
  pub plan_legal : ((head : ℕ) → head < length m.orders → head_of heads head ≡ head → Fits m (group_column heads kinds head)) → IsLegal m plan
  plan_legal fits = record {
    places = omega (arith, built.size, grouped.heads_size);
    within = λ o h. built.within o (omega (arith, built.size));
    fits = λ k h. let is = slab_is k h in subst (Fits m) (sym is.column) (fits is.head is.first is.own);
    once = used_once;
  }

  pub plan_in_order : IsInOrder plan
  plan_in_order = built.rising

  -- ---- its sums

  weight_of : ℕ → ℕ
  weight_of o = (order_at m o).weight

  -- what a group weighs, order by order
  group_weight : (head : ℕ) → pos (load m (group_of heads head)) ≡ total_below (length heads) (λ o. cond (eqb head (head_of heads o)) (pos (order_at m o).weight) (pos 0))
  group_weight head =
      sym (total_by-pos (λ o. (order_at m o).weight) (group_of heads head))
      ∙ sym (column_total 0 (length heads) (group_of heads head) (λ o. pos (order_at m o).weight) (members_rise heads (head ∷ [])))
      ∙ total_below-ext (length heads) (λ o. cond (has (group_of heads head) o) (pos (order_at m o).weight) (pos 0)) (λ o. cond (eqb head (head_of heads o)) (pos (order_at m o).weight) (pos 0)) (λ o h. ap (λ (b : Bool). cond b (pos (order_at m o).weight) (pos 0)) (has_group heads head o h))

  -- the groups weigh what the orders do
  all_weights : total_below (length heads) (at_heads heads (λ head. pos (load m (group_of heads head)))) ≡ pos (sum_by (λ (order : Order). order.weight) m.orders)
  all_weights =
      total_below-ext (length heads) (at_heads heads (λ head. pos (load m (group_of heads head)))) (λ head. total_below (length heads) (λ o. cond (eqb (head_of heads head) head) (cond (eqb head (head_of heads o)) (pos (order_at m o).weight) (pos 0)) (pos 0))) (λ head h. row head)
      ∙ swapped (length heads) (length heads) (λ head o. cond (eqb (head_of heads head) head) (cond (eqb head (head_of heads o)) (pos (order_at m o).weight) (pos 0)) (pos 0))
      ∙ total_below-ext (length heads) (λ o. total_below (length heads) (λ head. cond (eqb (head_of heads head) head) (cond (eqb head (head_of heads o)) (pos (order_at m o).weight) (pos 0)) (pos 0))) (λ o. pos (order_at m o).weight) (λ o h. one o h)
      ∙ ap (λ (n : ℕ). total_below n (λ o. pos (order_at m o).weight)) grouped.heads_size
      ∙ sym (total_by_at (λ (order : Order). pos order.weight) (record { weight = 0; colour = 0 }) m.orders)
      ∙ total_by-pos (λ (order : Order). order.weight) m.orders
    where
      row : (head : ℕ) → at_heads heads (λ h. pos (load m (group_of heads h))) head ≡ total_below (length heads) (λ o. cond (eqb (head_of heads head) head) (cond (eqb head (head_of heads o)) (pos (order_at m o).weight) (pos 0)) (pos 0))
      row head = by (eqb (head_of heads head) head)
        where
          by : (b : Bool) → cond b (pos (load m (group_of heads head))) (pos 0) ≡ total_below (length heads) (λ o. cond b (cond (eqb head (head_of heads o)) (pos (order_at m o).weight) (pos 0)) (pos 0))
          by true = group_weight head
          by false = sym (total_below-zero (length heads))

      one : (o : ℕ) → o < length heads → total_below (length heads) (λ head. cond (eqb (head_of heads head) head) (cond (eqb head (head_of heads o)) (pos (order_at m o).weight) (pos 0)) (pos 0)) ≡ pos (order_at m o).weight
      one o h =
          total_below-ext (length heads) (λ head. cond (eqb (head_of heads head) head) (cond (eqb head (head_of heads o)) (pos (order_at m o).weight) (pos 0)) (pos 0)) (λ head. cond (eqb (head_of heads o) head) (at_heads heads (λ _. pos (order_at m o).weight) head) (pos 0)) (λ head l. turn (eqb (head_of heads head) head) head)
          ∙ one_term (length heads) (head_of heads o) (at_heads heads (λ _. pos (order_at m o).weight)) (omega (arith, grouped.grouping.before o h))
          ∙ cond-true (eqb (head_of heads (head_of heads o)) (head_of heads o)) (pos (order_at m o).weight) (pos 0) (eq-eqb (head_of heads (head_of heads o)) (head_of heads o) (grouped.grouping.fixed o h))
        where
          neither : (b : Bool) → cond b (pos 0) (pos 0) ≡ pos 0
          neither true = refl
          neither false = refl

          turn : (b : Bool) (head : ℕ) → cond b (cond (eqb head (head_of heads o)) (pos (order_at m o).weight) (pos 0)) (pos 0) ≡ cond (eqb (head_of heads o) head) (cond b (pos (order_at m o).weight) (pos 0)) (pos 0)
          turn b head = elim (cases_eq head (head_of heads o)) [
            | inl e ↦ rw (eq-eqb head (head_of heads o) e, eq-eqb (head_of heads o) head (sym e)) refl
            | inr ne ↦ rw (ne_eqb head (head_of heads o) ne, ne_eqb (head_of heads o) head (λ e. ne (sym e))) (neither b)
          ]

  -- the loss of the plan is that of the groups
  pub plan_loss : (fits : (head : ℕ) → head < length m.orders → head_of heads head ≡ head → Fits m (group_column heads kinds head)) → total_below (length heads) (at_heads heads (λ head. pos (loss_of m (group_column heads kinds head)))) ≡ pos (sums_of m plan).loss
  plan_loss fits =
      let sizes : pos (sum_by (size_of m) used) ≡ total_below (length heads) (at_heads heads (λ head. pos (size_of m (kind_at kinds head)))) = built.total (size_of m) in
      let parts : total_below (length heads) (at_heads heads (λ head. pos (size_of m (kind_at kinds head)))) ≡ total_below (length heads) (at_heads heads (λ head. pos (loss_of m (group_column heads kinds head)))) +ℤ total_below (length heads) (at_heads heads (λ head. pos (load m (group_of heads head)))) =
      total_below-ext (length heads) (at_heads heads (λ head. pos (size_of m (kind_at kinds head)))) (λ head. at_heads heads (λ h. pos (loss_of m (group_column heads kinds h))) head +ℤ at_heads heads (λ h. pos (load m (group_of heads h))) head) (λ head h. split head h)
      ∙ total_below-add (length heads) (at_heads heads (λ head. pos (loss_of m (group_column heads kinds head)))) (at_heads heads (λ head. pos (load m (group_of heads head)))) in
      let enough : sum_by (λ (order : Order). order.weight) m.orders ≤ sum_by (size_of m) used = weights_within_sizes m plan (plan_legal fits) in
      omega (arith, ints, sizes, parts, all_weights, enough)
    where
      split : (head : ℕ) → head < length heads → at_heads heads (λ h. pos (size_of m (kind_at kinds h))) head ≡ at_heads heads (λ h. pos (loss_of m (group_column heads kinds h))) head +ℤ at_heads heads (λ h. pos (load m (group_of heads h))) head
      split head h = elim (cases_eq (head_of heads head) head) [
        | inl e ↦ let fit = fits head (omega (arith, grouped.heads_size)) e in rw (eq-eqb (head_of heads head) head e) (omega (arith, ints, fit.weight))
        | inr ne ↦ rw (ne_eqb (head_of heads head) head ne) refl
      ]

  -- and so is its count
  pub plan_count : total_below (length heads) (at_heads heads (λ head. pos (cond (is_new (kind_at kinds head)) 1 0))) ≡ pos (sums_of m plan).count
  plan_count = sym (built.total (λ kind. cond (is_new kind) 1 0))

  -- in a legal plan each group fits on its slab
  pub groups_fit : IsLegal m plan → (head : ℕ) → head < length m.orders → head_of heads head ≡ head → Fits m (group_column heads kinds head)
  groups_fit legal head h own =
      let low : head < length heads = omega (arith, grouped.heads_size) in
      let is = slab_is (get_or place head 0) (built.within head low) in
      let same : is.head ≡ head = sym is.of ∙ built.parted is.order head is.inside low is.there ∙ own in
      subst (λ (g : ℕ). Fits m (group_column heads kinds g)) same (subst (Fits m) is.column (legal.fits (get_or place head 0) (built.within head low)))
