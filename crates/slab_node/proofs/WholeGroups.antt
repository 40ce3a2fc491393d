-- A cover that answers each ask by yes or no: its columns are the groups of a plan, which is legal, within the limits, and agrees.
use Rattle.std.proofs.Common.{◌≡◌, ℕ, ◌+◌, ◌*◌, ◌<◌, ◌≤◌, ℤ, pos, ◌*ℤ◌, ◌≤ℤ◌, Bool, true, cond, eqb, List, [], ◌∷◌, length, get_or, slice_index, sum_by, refl, sym, ap, ◌∙◌, subst, inl, inr, arith, Option, Some, None, IfSome}
use Rattle.std.proofs.lemmas.Int.{ints}
use Rattle.std.proofs.lemmas.Bool.{both_ways, eqb-true, eq-eqb, or_left, or_cases}
use Rattle.std.proofs.lemmas.List.Elements.{All-from_get_or, Contains-get_or, recursion_from_All}
use Rattle.mill_model.specs.declared.kind.Kind.{Kind}
use Rattle.mill_model.specs.declared.kind.Kind.TheVariants.{New, Old}
use Rattle.mill_model.specs.declared.limits.Limits.{Limits}
use Rattle.mill_model.specs.Mill.{Mill}
use Rattle.mill_model.specs.Columns.{Column, Fits, IsLegalColumn, IsInStock, Rises, has, is_old, loss_of}
use Rattle.mill_model.specs.Plans.{Plan, is_new, IsLegal, sums_of}
use Rattle.mill_model.specs.SignedSums.{total_by, total_below}
use Rattle.mill_model.specs.Limits.{AtMost, IsWithin}
use Rattle.mill_model.specs.Decisions.{Decision, AreAsks, PlanAgrees, column_agrees}
use Rattle.mill_model.specs.Covers.{Part, times, IsCover}
use Rattle.pricing_laws.specs.Groups.{head_of}
use Rattle.mill_model.proofs.Rising.{same_members}
use Rattle.pricing_laws.proofs.Groups.{members_rise}
use Rattle.mill_model.proofs.Slabs.{plan_agrees}
use Rattle.slab_relax.proofs.Covering.{sum_tests}
use Rattle.slab_node.specs.Turns.{IsInBox}
use Rattle.slab_node.specs.Grouped.{IsGrouping, AreGrouped, AreKinds, IsOfGroup, slab_of, slab_at, group_of, group_column}
use Rattle.slab_node.specs.Built.{IsBuilt}
use Rattle.slab_node.specs.Stated.{at_heads, group_loss, group_count}
use Rattle.slab_node.specs.Shares.{IsWhole}
use Rattle.slab_node.specs.Taken.{Counts, IsTaken, AreTaken}
use Rattle.slab_node.proofs.Uniform.{at_part, same_orders, same_slab, one_group}
use Rattle.slab_node.proofs.GroupColumns.{group_fits, group_loss as own_loss, group_is_new, group_agrees}
use Rattle.slab_node.proofs.GroupPrices.{group_worth}
use Rattle.slab_node.proofs.PlanOfGroups.{same_bool, has_group, slab_is, plan_legal, plan_in_order, plan_loss, plan_count}
use Rattle.slab_node.proofs.Weights.{cancel, weigh_signed}

-- the first of some rising orders is one of them, no later than any, and one of the mill's
first_is : (low n : ℕ) (xs : List ℕ) → 0 < length xs → Rises low n xs → (has xs (slice_index xs 0) ≡ true) × (slice_index xs 0 < n)
first_is low n [] h r = absurd (omega arith)
first_is low n (x ∷ xs) h r = (or_left (eqb x x) (has xs x) (eq-eqb x x refl), r.1)

from_low : (low n : ℕ) (xs : List ℕ) (o : ℕ) → Rises low n xs → has xs o ≡ true → low ≤ o
from_low low n [] o r e = cc
from_low low n (x ∷ xs) o r e = elim (or_cases (eqb x o) (has xs o) e) [
  | inl q ↦ omega (arith, eqb-true x o q, r.0)
  | inr q ↦ omega (arith, from_low (x + 1) n xs o r.2 q, r.0)
]

first_before : (low n : ℕ) (xs : List ℕ) (o : ℕ) → Rises low n xs → has xs o ≡ true → slice_index xs 0 ≤ o
first_before low n [] o r e = cc
first_before low n (x ∷ xs) o r e = elim (or_cases (eqb x o) (has xs o) e) [
  | inl q ↦ omega (arith, eqb-true x o q)
  | inr q ↦ omega (arith, from_low (x + 1) n xs o r.2 q)
]

-- kinds that no surplus slab tells apart have the same one
one_slab : (m : Mill) (k l : Kind) → IsInStock m k → IsInStock m l → ((s : ℕ) → s < length m.yard → is_old s k ≡ is_old s l) → slab_of k ≡ slab_of l
one_slab m (New u) (New v) x y e = refl
one_slab m (New u) (Old t) x y e = absurd (both_ways (eqb t t) (sym (e t y)) (eq-eqb t t refl))
one_slab m (Old s) (New v) x y e = absurd (both_ways (eqb s s) (e s x) (eq-eqb s s refl))
one_slab m (Old s) (Old t) x y e = ap Some (eqb-true s t (e t y ∙ eq-eqb t t refl))

module _ (m : Mill) (limits : Limits) (decisions : List Decision) (d : ℕ) (parts : List Part) (cover : IsCover m limits decisions d parts) (whole : IsWhole m d parts) (heads : List ℕ) (slabs : List (Option ℕ)) (are_taken : AreTaken m parts heads slabs) where
  heads_size : length heads ≡ length m.orders
  heads_size = are_taken.heads_size

  slabs_size : length slabs ≡ length m.orders
  slabs_size = are_taken.slabs_size

  taken : (o : ℕ) → o < length m.orders → IsTaken parts o (head_of heads o) (slab_at slabs o)
  taken = are_taken.each

  legal_part : (p : Part) → Counts parts p → IsLegalColumn m p.0
  legal_part p x = (at_part (λ (part : Part). IsLegalColumn m part.0 × (column_agrees decisions part.0 ≡ true)) parts p cover.legal x.there).0

  agree_part : (p : Part) → Counts parts p → column_agrees decisions p.0 ≡ true
  agree_part p x = (at_part (λ (part : Part). IsLegalColumn m part.0 × (column_agrees decisions part.0 ≡ true)) parts p cover.legal x.there).1

  shared : (p q : Part) (o : ℕ) → Counts parts p → Counts parts q → o < length m.orders → has p.0.orders o ≡ true → has q.0.orders o ≡ true → p.0.orders ≡ q.0.orders
  shared p q o x y h e f = same_orders m limits decisions d parts cover whole p q o x y h e f

  -- the head of an order is one of its column's
  head_in : (o : ℕ) (h : o < length m.orders) → (has (taken o h).part.0.orders (head_of heads o) ≡ true) × (head_of heads o < length m.orders)
  head_in o h =
      let first = first_is 0 (length m.orders) (taken o h).part.0.orders (legal_part (taken o h).part (taken o h).counts).fits.some (legal_part (taken o h).part (taken o h).counts).rises in
      (ap (has (taken o h).part.0.orders) (taken o h).head_is ∙ first.0, omega (arith, (taken o h).head_is, first.1))

  -- a column that counts and has an order has the order's head, and its orders are those of the order's column
  own_orders : (p : Part) (o : ℕ) → Counts parts p → (h : o < length m.orders) → has p.0.orders o ≡ true → p.0.orders ≡ (taken o h).part.0.orders
  own_orders p o x h e = shared p (taken o h).part o x (taken o h).counts h e (taken o h).mine

  has_head : (p : Part) (o : ℕ) → Counts parts p → (h : o < length m.orders) → has p.0.orders o ≡ true → has p.0.orders (head_of heads o) ≡ true
  has_head p o x h e = ap (λ (os : List ℕ). has os (head_of heads o)) (own_orders p o x h e) ∙ (head_in o h).0

  grouping : IsGrouping heads
  grouping = record { before = λ o l. before o (omega (arith, heads_size)); fixed = λ o l. fixed o (omega (arith, heads_size)) }
    where
      before : (o : ℕ) → o < length m.orders → head_of heads o ≤ o
      before o h = omega (arith, (taken o h).head_is, first_before 0 (length m.orders) (taken o h).part.0.orders o (legal_part (taken o h).part (taken o h).counts).rises (taken o h).mine)

      fixed : (o : ℕ) → o < length m.orders → head_of heads (head_of heads o) ≡ head_of heads o
      fixed o h =
          let inside = (head_in o h).1 in
          (taken (head_of heads o) inside).head_is ∙ ap (λ (os : List ℕ). slice_index os 0) (sym (own_orders (taken o h).part (head_of heads o) (taken o h).counts inside (head_in o h).0)) ∙ sym (taken o h).head_is

  -- two orders of one column have one head
  one_head : (p : Part) (i j : ℕ) → Counts parts p → i < length m.orders → j < length m.orders → has p.0.orders i ≡ true → has p.0.orders j ≡ true → head_of heads i ≡ head_of heads j
  one_head p i j x h l e f = (taken i h).head_is ∙ ap (λ (os : List ℕ). slice_index os 0) (sym (own_orders p i x h e) ∙ own_orders p j x l f) ∙ sym (taken j l).head_is

  -- a column that counts is the group of each of its orders
  of_group : (p : Part) (o : ℕ) → Counts parts p → o < length m.orders → has p.0.orders o ≡ true → IsOfGroup heads slabs p.0 (head_of heads o)
  of_group p o x h e = record {
    orders = same_members 0 (length heads) p.0.orders (group_of heads (head_of heads o)) (subst (λ (n : ℕ). Rises 0 n p.0.orders) (sym heads_size) (legal_part p x).rises) (members_rise heads (head_of heads o ∷ [])) same;
    slab =
        one_slab m p.0.kind (taken (head_of heads o) inside).part.0.kind (legal_part p x).fits.kind (legal_part (taken (head_of heads o) inside).part (taken (head_of heads o) inside).counts).fits.kind
        (λ s l. same_slab m limits decisions d parts cover whole p (taken (head_of heads o) inside).part (head_of heads o) s x (taken (head_of heads o) inside).counts inside l (has_head p o x h e) (taken (head_of heads o) inside).mine)
        ∙ sym (taken (head_of heads o) inside).slab_is;
  }
    where
      inside : head_of heads o < length m.orders
      inside = (head_in o h).1

      same : (j : ℕ) → j < length heads → has p.0.orders j ≡ has (group_of heads (head_of heads o)) j
      same j k =
          let l : j < length m.orders = omega (arith, heads_size) in
          same_bool (has p.0.orders j) (eqb (head_of heads o) (head_of heads j))
          (λ t. eq-eqb (head_of heads o) (head_of heads j) (one_head p o j x h l e t))
          (λ t. let same_head : head_of heads o ≡ head_of heads j = eqb-true (head_of heads o) (head_of heads j) t in
          let theirs : has (taken j l).part.0.orders (head_of heads o) ≡ true = ap (has (taken j l).part.0.orders) same_head ∙ (head_in j l).0 in
          ap (λ (os : List ℕ). has os j) (shared p (taken j l).part (head_of heads o) x (taken j l).counts inside (has_head p o x h e) theirs) ∙ (taken j l).mine)
          ∙ sym (has_group heads (head_of heads o) j k)

  stocked : (kind : Kind) → IsInStock m kind → IfSome (slab_of kind) (λ s. s < length m.yard)
  stocked (New u) h = tt
  stocked (Old s) h = h

  is_old_at : (kind : Kind) (s : ℕ) → slab_of kind ≡ Some s → is_old s kind ≡ true
  is_old_at (New u) s e = cc
  is_old_at (Old t) s e = eq-eqb t s (some e)
    where
      some : Some t ≡ Some s → t ≡ s
      some q = cc

  within_yard : (kind : Kind) (s : ℕ) → IsInStock m kind → slab_of kind ≡ Some s → s < length m.yard
  within_yard kind s stock e = subst (λ (slab : Option ℕ). IfSome slab (λ t. t < length m.yard)) e (stocked kind stock)

  pub are_grouped : AreGrouped m heads slabs
  are_grouped = record {
    grouping = grouping;
    heads_size = heads_size;
    slabs_size = slabs_size;
    stock = All-from_get_or (λ (slab : Option ℕ). IfSome slab (λ s. s < length m.yard)) slabs None (λ o h. each o (omega (arith, slabs_size)));
    once = once;
  }
    where
      each : (o : ℕ) → o < length m.orders → IfSome (slab_at slabs o) (λ s. s < length m.yard)
      each o h = subst (λ (slab : Option ℕ). IfSome slab (λ s. s < length m.yard)) (sym (taken o h).slab_is) (stocked (taken o h).part.0.kind (legal_part (taken o h).part (taken o h).counts).fits.kind)

      once : (g h s : ℕ) → g < length m.orders → h < length m.orders → head_of heads g ≡ g → head_of heads h ≡ h → slab_at slabs g ≡ Some s → slab_at slabs h ≡ Some s → g ≡ h
      once g h s i j own_g own_h e f =
          let p = taken g i in
          let q = taken h j in
          let on_p : slab_of p.part.0.kind ≡ Some s = sym p.slab_is ∙ e in
          let on_q : slab_of q.part.0.kind ≡ Some s = sym q.slab_is ∙ f in
          let both : has p.part.0.orders h ≡ true =
          one_group m limits decisions d parts cover whole g h s p.part q.part p.counts q.counts i j (within_yard p.part.0.kind s (legal_part p.part p.counts).fits.kind on_p) p.mine q.mine (is_old_at p.part.0.kind s on_p) (is_old_at q.part.0.kind s on_q) in
          sym own_g ∙ one_head p.part g h p.counts i j p.mine both ∙ own_h

  -- ---- the plan

  module _ (kinds used : List Kind) (place : List ℕ) (are : AreKinds m heads slabs kinds) (built : IsBuilt heads kinds (length heads) used place) where
    abbrev plan : Plan
    plan = record { kinds = used; place = place }

    -- the column of a group's first order
    own_part : (head : ℕ) (h : head < length m.orders) → head_of heads head ≡ head → IsOfGroup heads slabs (taken head h).part.0 head
    own_part head h own = subst (λ (g : ℕ). IsOfGroup heads slabs (taken head h).part.0 g) own (of_group (taken head h).part head (taken head h).counts h (taken head h).mine)

    fits : (head : ℕ) → head < length m.orders → head_of heads head ≡ head → Fits m (group_column heads kinds head)
    fits head h own = group_fits m heads slabs kinds (taken head h).part.0 head (are.each head h) (own_part head h own) (legal_part (taken head h).part (taken head h).counts).fits

    legal : IsLegal m plan
    legal = plan_legal m heads slabs kinds used place are_grouped are built fits

    -- what is no more than each column's cost is no more than the cover's
    value_within : (value : ℕ → ℤ) (cost : Column → ℕ) → ((p : Part) (o : ℕ) → Counts parts p → o < length m.orders → has p.0.orders o ≡ true → value (head_of heads o) ≤ℤ pos (cost p.0))
        → (pos d *ℤ total_below (length m.orders) (at_heads heads value)) ≤ℤ pos (sum_by (λ (part : Part). part.1 * cost part.0) parts)
    value_within value cost cheap =
        weigh_signed m limits decisions d parts cover (at_heads heads value) cost
        (recursion_from_All (λ (part : Part). 0 < part.1 → total_by (at_heads heads value) part.0.orders ≤ℤ pos (cost part.0)) parts
        (λ k e l above. one (get_or parts k e) (record { there = Contains-get_or parts k e l; above = above })))
      where
        one : (p : Part) → Counts parts p → total_by (at_heads heads value) p.0.orders ≤ℤ pos (cost p.0)
        one p x =
            let lawful = legal_part p x in
            let first = first_is 0 (length m.orders) p.0.orders lawful.fits.some lawful.rises in
            let of = of_group p (slice_index p.0.orders 0) x first.1 first.0 in
            let inside = (head_in (slice_index p.0.orders 0) first.1).1 in
            rw (group_worth heads value p.0.orders (head_of heads (slice_index p.0.orders 0)) of.orders (omega (arith, inside, heads_size)) (grouping.fixed (slice_index p.0.orders 0) (omega (arith, first.1, heads_size))))
            (cheap p (slice_index p.0.orders 0) x first.1 first.0)

    loss_cheap : (p : Part) (o : ℕ) → Counts parts p → o < length m.orders → has p.0.orders o ≡ true → group_loss m heads kinds (head_of heads o) ≤ℤ pos (loss_of m p.0)
    loss_cheap p o x h e = omega (arith, ints, own_loss m heads slabs kinds p.0 (head_of heads o) (are.each (head_of heads o) (head_in o h).1) (of_group p o x h e) (legal_part p x).fits)

    count_cheap : (p : Part) (o : ℕ) → Counts parts p → o < length m.orders → has p.0.orders o ≡ true → group_count kinds (head_of heads o) ≤ℤ pos (cond (is_new p.0.kind) 1 0)
    count_cheap p o x h e = omega (arith, ints, ap (λ (b : Bool). pos (cond b 1 0)) (group_is_new m heads slabs kinds p.0 (head_of heads o) (are.each (head_of heads o) (head_in o h).1) (of_group p o x h e)))

    total_is : (value : ℕ → ℤ) → total_below (length heads) (at_heads heads value) ≡ total_below (length m.orders) (at_heads heads value)
    total_is value = ap (λ (n : ℕ). total_below n (at_heads heads value)) heads_size

    limited : (limit : Option ℤ) (total : ℕ) (cost : ℕ) → (pos d *ℤ pos total) ≤ℤ pos cost → AtMost (Some (pos cost)) (times d limit) → AtMost (Some (pos total)) limit
    limited None total cost le most = tt
    limited (Some a) total cost le most = cancel d (pos total) a cover.denominator (omega (arith, ints, le, most))

    within : IsWithin (sums_of m plan) limits
    within = record {
      loss = limited limits.loss (sums_of m plan).loss (sum_by (λ (part : Part). part.1 * loss_of m part.0) parts)
          (subst (λ (z : ℤ). (pos d *ℤ z) ≤ℤ pos (sum_by (λ (part : Part). part.1 * loss_of m part.0) parts)) (sym (total_is (group_loss m heads kinds)) ∙ plan_loss m heads slabs kinds used place are_grouped are built fits) (value_within (group_loss m heads kinds) (loss_of m) loss_cheap)) cover.loss;
      count = limited limits.count (sums_of m plan).count (sum_by (λ (part : Part). cond (is_new part.0.kind) part.1 0) parts)
          (subst (λ (z : ℤ). (pos d *ℤ z) ≤ℤ pos (sum_by (λ (part : Part). cond (is_new part.0.kind) part.1 0) parts)) (sym (total_is (group_count kinds)) ∙ plan_count m heads slabs kinds used place are_grouped are built)
          (subst (λ (n : ℕ). (pos d *ℤ total_below (length m.orders) (at_heads heads (group_count kinds))) ≤ℤ pos n) (sum_tests (λ c. is_new c.kind) parts) (value_within (group_count kinds) (λ c. cond (is_new c.kind) 1 0) count_cheap))) cover.count;
    }

    agreed : AreAsks m decisions → PlanAgrees decisions plan
    agreed asks = plan_agrees m plan legal decisions asks (λ k h. let is = slab_is m heads slabs kinds used place are_grouped are built k h in
        ap (column_agrees decisions) is.column
        ∙ group_agrees m heads slabs kinds (taken is.head is.first).part.0 is.head (are.each is.head is.first) (own_part is.head is.first is.own) decisions
        ∙ agree_part (taken is.head is.first).part (taken is.head is.first).counts)

    pub whole_in_box : AreAsks m decisions → IsInBox m limits decisions plan
    whole_in_box asks = record {
      legal = legal;
      order = plan_in_order m heads slabs kinds used place are_grouped are built;
      within = within;
      agrees = agreed asks;
    }
