-- Settled decisions as groups: what their assignment says of orders and surplus slabs.
use Rattle.std.proofs.Common.{◌≡◌, ℕ, ◌<◌, true, false, eqb, List, [], ◌∷◌, length, get_or, refl, sym, ap, ◌∙◌, subst, inl, inr, arith, Option, Some, None, IfSome}
use Rattle.std.proofs.lemmas.Bool.{false_from_ne_true, both_ways, eqb-true, eq-eqb, cases_order, cases_eq}
use Rattle.std.proofs.lemmas.List.Elements.{All-from_get_or}
use Rattle.mill_model.specs.declared.kind.Kind.{Kind}
use Rattle.mill_model.specs.declared.kind.Kind.TheVariants.{New, Old}
use Rattle.mill_model.specs.declared.ask.Ask.{Ask}
use Rattle.mill_model.specs.declared.ask.Ask.TheVariants.{Pair, Put}
use Rattle.mill_model.specs.Mill.{Mill}
use Rattle.mill_model.specs.Columns.{Column, IsLegalColumn, IsInStock, Rises, has, is_old, load}
use Rattle.mill_model.specs.Decisions.{Decision, IsAsk, AreAsks, answer_of, PlanAgrees, column_agrees}
use Rattle.mill_model.specs.Assignments.{Group, same_group, Assignment, answer, Agrees, AreSettled}
use Rattle.mill_model.specs.Assignments.Group.{On}
use Rattle.pricing_laws.specs.Groups.{head_of}
use Rattle.mill_model.proofs.Agreement.{settled_orders, settled_kind}
use Rattle.mill_model.proofs.SameGroups.{same_group-true, same_group_from}
use Rattle.pricing_laws.proofs.Groups.{members_rise}
use Rattle.mill_model.proofs.Rising.{same_members}
use Rattle.mill_model.proofs.Settled.{plan_agrees_like}
use Rattle.slab_node.specs.Grouped.{IsGrouping, AreGrouped, AreKinds, IsKindFor, IsOfGroup, slab_of, slab_at, kind_at, group_of}
use Rattle.slab_node.specs.Built.{IsBuilt}
use Rattle.slab_node.specs.Settled.{IsSlabOf, AreFirsts, AreSlabs}
use Rattle.slab_node.proofs.PlanOfGroups.{same_bool, has_group}

module _ (m : Mill) (decisions : List Decision) (a : Assignment) (agree : Agrees decisions a) (heads : List ℕ) (slabs : List (Option ℕ)) (heads_size : length heads ≡ length m.orders) (slabs_size : length slabs ≡ length m.orders) (firsts : AreFirsts decisions heads) (puts : AreSlabs decisions (length m.yard) slabs) where
  -- ---- heads

  -- an order and its head are in one group
  with_head : (o : ℕ) → o < length heads → a (head_of heads o) ≡ a o
  with_head o h = elim (cases_eq (head_of heads o) o) [
    | inl e ↦ ap a e
    | inr ne ↦ same_group-true (a (head_of heads o)) (a o) ((firsts o h).joined (omega (arith, (firsts o h).before)) a agree)
  ]

  -- no order before the head is
  not_before : (o i : ℕ) → o < length heads → i < head_of heads o → a i ≡ a o → ⊥
  not_before o i h l e = both_ways (same_group (a i) (a o)) ((firsts o h).apart i l a agree) (same_group_from (a i) (a o) e)

  -- orders of one group have one head
  one_head : (i j : ℕ) → i < length heads → j < length heads → a i ≡ a j → head_of heads i ≡ head_of heads j
  one_head i j h l e = elim (cases_order (head_of heads i) (head_of heads j)) [
    | inl q ↦ q
    | inr q ↦ elim q [
      | inl less ↦ absurd (not_before j (head_of heads i) l less (with_head i h ∙ e))
      | inr more ↦ absurd (not_before i (head_of heads j) h more (with_head j l ∙ sym e))
    ]
  ]

  one_group : (i j : ℕ) → i < length heads → j < length heads → head_of heads i ≡ head_of heads j → a i ≡ a j
  one_group i j h l e = sym (with_head i h) ∙ ap a e ∙ with_head j l

  grouping : IsGrouping heads
  grouping = record {
    before = λ o h. (firsts o h).before;
    fixed = λ o h. one_head (head_of heads o) o (omega (arith, (firsts o h).before)) h (with_head o h);
  }

  -- ---- surplus slabs

  on_slab : (o s : ℕ) → o < length slabs → slab_at slabs o ≡ Some s → a o ≡ On s
  on_slab o s h e = same_group-true (a o) (On s) (told (slab_at slabs o) e (puts o h))
    where
      told : (slab : Option ℕ) → slab ≡ Some s → IsSlabOf decisions (length m.yard) o slab → same_group (a o) (On s) ≡ true
      told None q is = cc
      told (Some r) q is = subst (λ (z : ℕ). same_group (a o) (On z) ≡ true) (some q) (is.on a agree)
        where
          some : Some r ≡ Some s → r ≡ s
          some w = cc

  off_slab : (o s : ℕ) → o < length slabs → s < length m.yard → slab_at slabs o ≡ None → a o ≡ On s → ⊥
  off_slab o s h l e q = both_ways (same_group (a o) (On s)) (told (slab_at slabs o) e (puts o h)) (same_group_from (a o) (On s) q)
    where
      told : (slab : Option ℕ) → slab ≡ None → IsSlabOf decisions (length m.yard) o slab → same_group (a o) (On s) ≡ false
      told None w is = is.off s l a agree
      told (Some r) w is = cc

  stocked : (o : ℕ) → o < length slabs → IfSome (slab_at slabs o) (λ s. s < length m.yard)
  stocked o h = (puts o h).within

  pub are_grouped : AreGrouped m heads slabs
  are_grouped = record {
    grouping = grouping;
    heads_size = heads_size;
    slabs_size = slabs_size;
    stock = All-from_get_or (λ (slab : Option ℕ). IfSome slab (λ s. s < length m.yard)) slabs None stocked;
    once = λ g h s l k own_g own_h p q. sym own_g ∙ one_head g h (omega (arith, heads_size)) (omega (arith, heads_size)) (on_slab g s (omega (arith, slabs_size)) p ∙ sym (on_slab h s (omega (arith, slabs_size)) q)) ∙ own_h;
  }

  -- ---- columns

  -- a legal column that agrees has a whole group, and lies on its surplus slab or on none
  module _ (settled : AreSettled m decisions) (c : Column) (legal : IsLegalColumn m c) (allowed : column_agrees decisions c ≡ true) (o : ℕ) (h : o < length m.orders) (e : has c.orders o ≡ true) where
    inside : o < length heads
    inside = omega (arith, heads_size)

    head_inside : head_of heads o < length slabs
    head_inside = omega (arith, (firsts o inside).before, slabs_size)

    orders_are : c.orders ≡ group_of heads (head_of heads o)
    orders_are = same_members 0 (length heads) c.orders (group_of heads (head_of heads o)) (subst (λ (n : ℕ). Rises 0 n c.orders) (sym heads_size) legal.rises) (members_rise heads (head_of heads o ∷ [])) same
      where
        same : (j : ℕ) → j < length heads → has c.orders j ≡ has (group_of heads (head_of heads o)) j
        same j l =
            settled_orders m decisions a c agree settled allowed o j h (omega (arith, heads_size)) e
            ∙ same_bool (same_group (a j) (a o)) (eqb (head_of heads o) (head_of heads j))
            (λ t. eq-eqb (head_of heads o) (head_of heads j) (one_head o j inside l (sym (same_group-true (a j) (a o) t))))
            (λ t. same_group_from (a j) (a o) (one_group j o l inside (sym (eqb-true (head_of heads o) (head_of heads j) t))))
            ∙ sym (has_group heads (head_of heads o) j l)

    on : (t : ℕ) → t < length m.yard → c.kind ≡ Old t → a o ≡ On t
    on t l p = same_group-true (a o) (On t) (sym (settled_kind m decisions a c agree settled allowed o t h l e) ∙ ap (is_old t) p ∙ eq-eqb t t refl)

    slab_is : (kind : Kind) (slab : Option ℕ) → c.kind ≡ kind → slab_at slabs (head_of heads o) ≡ slab → slab_of kind ≡ slab
    slab_is (New u) None p q = refl
    slab_is (New u) (Some s) p q = absurd (both_ways (is_old s c.kind) (ap (is_old s) p) (settled_kind m decisions a c agree settled allowed o s h within e ∙ same_group_from (a o) (On s) (sym (with_head o inside) ∙ on_slab (head_of heads o) s head_inside q)))
      where
        within : s < length m.yard
        within = subst (λ (slab : Option ℕ). IfSome slab (λ t. t < length m.yard)) q (stocked (head_of heads o) head_inside)
    slab_is (Old t) None p q = absurd (off_slab (head_of heads o) t head_inside within q (with_head o inside ∙ on t within p))
      where
        within : t < length m.yard
        within = subst (IsInStock m) p legal.fits.kind
    slab_is (Old t) (Some s) p q = ap Some (same (sym (on t within p) ∙ sym (with_head o inside) ∙ on_slab (head_of heads o) s head_inside q))
      where
        within : t < length m.yard
        within = subst (IsInStock m) p legal.fits.kind

        same : On t ≡ On s → t ≡ s
        same w = cc

    pub of_group : IsOfGroup heads slabs c (head_of heads o)
    of_group = record { orders = orders_are; slab = slab_is c.kind (slab_at slabs (head_of heads o)) refl refl }

  -- ---- the plan

  pub plan_agrees : (kinds used : List Kind) (place : List ℕ) → AreAsks m decisions → AreKinds m heads slabs kinds → IsBuilt heads kinds (length heads) used place → PlanAgrees decisions (record { kinds = used; place = place })
  plan_agrees kinds used place asks are built = plan_agrees_like m (record { kinds = used; place = place }) a decisions asks like agree
    where
      like : (ask : Ask) → IsAsk m ask → answer_of (record { kinds = used; place = place }) ask ≡ answer a ask
      like (Pair i j) asked =
          let low : i < length heads = omega (arith, asked.0, asked.1, heads_size) in
          let high : j < length heads = omega (arith, asked.1, heads_size) in
          same_bool (eqb (get_or place i 0) (get_or place j 0)) (same_group (a i) (a j))
          (λ t. same_group_from (a i) (a j) (one_group i j low high (built.parted i j low high (eqb-true (get_or place i 0) (get_or place j 0) t))))
          (λ t. eq-eqb (get_or place i 0) (get_or place j 0) (built.joined i j low high (one_head i j low high (same_group-true (a i) (a j) t))))
      like (Put o s) asked =
          let low : o < length heads = omega (arith, asked.0, heads_size) in
          let first : head_of heads o < length m.orders = omega (arith, (firsts o low).before, asked.0) in
          ap (is_old s) (built.kind o low) ∙ by (slab_at slabs (head_of heads o)) (kind_at kinds (head_of heads o)) refl (are.each (head_of heads o) first) ∙ ap (λ (g : Group). same_group g (On s)) (with_head o low)
        where
          by : (slab : Option ℕ) (kind : Kind) → slab_at slabs (head_of heads o) ≡ slab → IsKindFor m slab (load m (group_of heads (head_of heads o))) kind → is_old s kind ≡ same_group (a (head_of heads o)) (On s)
          by None (New u) q is = sym (false_from_ne_true (same_group (a (head_of heads o)) (On s)) (λ t. off_slab (head_of heads o) s (omega (arith, (firsts o (omega (arith, asked.0, heads_size))).before, asked.0, slabs_size)) asked.1 q (same_group-true (a (head_of heads o)) (On s) t)))
          by None (Old r) q is = absurd is
          by (Some r) kind q is = ap (is_old s) is ∙ sym (ap (λ (g : Group). same_group g (On s)) (on_slab (head_of heads o) r (omega (arith, (firsts o (omega (arith, asked.0, heads_size))).before, asked.0, slabs_size)) q))
