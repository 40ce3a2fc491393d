-- Where the one plan of settled decisions breaks a rule or a limit, the stated prices refute.
use Rattle.std.proofs.Common.{◌≡◌, ℕ, ◌<◌, ℤ, pos, ◌+ℤ◌, ◌*ℤ◌, ◌≤ℤ◌, ◌<ℤ◌, Bool, true, false, cond, eqb, List, length, get_or, refl, sym, ap, ◌∙◌, subst, inl, inr, arith, Option, Some, None, IfNone, All}
use Rattle.std.specs.Prelude.{IsSomeAnd}
use Rattle.std.proofs.lemmas.Int.{ints}
use Rattle.std.proofs.lemmas.Bool.{eq-eqb, ne_eqb, cases_eq}
use Rattle.std.proofs.Math.IntN.{zero-*ℤ}
use Rattle.mill_model.specs.declared.kind.Kind.{Kind}
use Rattle.mill_model.specs.declared.kind.Kind.TheVariants.{New, Old}
use Rattle.mill_model.specs.declared.illegal.Illegal.{Illegal}
use Rattle.mill_model.specs.Mill.{Mill}
use Rattle.mill_model.specs.Columns.{Column, Fits, IsLegalColumn, has, loss_of}
use Rattle.mill_model.specs.Plans.{slab, is_new, IsLegal, sums_of}
use Rattle.mill_model.specs.Judging.{first_broken}
use Rattle.mill_model.specs.SignedSums.{total_below}
use Rattle.mill_model.specs.Prices.{IsPrice, charge, Refutes}
use Rattle.mill_model.specs.Limits.{number_of, IsWithin}
use Rattle.mill_model.specs.Decisions.{Decision, column_agrees}
use Rattle.mill_model.specs.Assignments.{Assignment}
use Rattle.pricing_laws.specs.Groups.{head_of}
use Rattle.mill_model.proofs.Signed.{total_below-ext}
use Rattle.mill_model.proofs.Duality.{one_term}
use Rattle.mill_model.proofs.PlainPrices.{zero_price}
use Rattle.slab_relax.specs.declared.node.Node.{Node}
use Rattle.slab_node.specs.declared.settlement.Settlement.{Settlement}
use Rattle.slab_node.specs.Turns.{IsInBox}
use Rattle.slab_node.specs.Grouped.{AreGrouped, IsOfGroup, kind_at, group_column}
use Rattle.slab_node.specs.Stated.{at_heads, AreAtHeads, only, group_loss, group_count, free_prices}
use Rattle.slab_node.specs.Misfits.{slab_number}
use Rattle.slab_node.specs.Settlements.{IsSettlement}
use Rattle.slab_node.proofs.SettledGroups.{are_grouped, of_group, plan_agrees}
use Rattle.slab_node.proofs.GroupColumns.{group_fits, group_loss as own_loss, group_is_new}
use Rattle.slab_node.proofs.GroupPrices.{group_prices_refute, missing}
use Rattle.slab_node.proofs.PlanOfGroups.{slab_is, used_once, plan_in_order, plan_loss, plan_count, groups_fit}
use Rattle.slab_node.proofs.Broken.{IsMisfit, first_misfit}

one_is_price : IsPrice (pos 1)
one_is_price = (omega (arith, ints), omega (arith, ints))

zero_is_price : IsPrice (pos 0)
zero_is_price = (omega (arith, ints), omega (arith, ints))

-- a limit that stands, and what holds of it
stands_at : (limit : Option ℤ) (P : ℤ → Type 0) → IsSomeAnd limit P → (a : ℤ) × (limit ≡ Some a) × P a
stands_at None P h = absurd h
stands_at (Some a) P h = (a, refl, h)

stood : (limit : Option ℤ) (number : ℤ) → limit ≡ Some number → IfNone limit (pos 1 ≡ pos 0)
stood None number e = cc
stood (Some a) number e = tt

module _ (node : Node) (s : Settlement) (is : IsSettlement node s) where
  abbrev m : Mill
  m = node.mill.now

  abbrev decisions : List Decision
  decisions = node.decisions.now.list

  abbrev heads : List ℕ
  heads = s.heads.items

  abbrev kinds : List Kind
  kinds = s.kinds.items

  abbrev a : Assignment
  a = is.node_is.consistent.0

  grouped : AreGrouped m heads is.slabs
  grouped = are_grouped m decisions a is.node_is.consistent.1 heads is.slabs is.heads_size is.slabs_size is.firsts is.puts

  of : (c : Column) → IsLegalColumn m c → column_agrees decisions c ≡ true → (o : ℕ) → o < length m.orders → has c.orders o ≡ true → IsOfGroup heads is.slabs c (head_of heads o)
  of c legal allowed o h e = of_group m decisions a is.node_is.consistent.1 heads is.slabs is.heads_size is.slabs_size is.firsts is.puts is.node_is.settled c legal allowed o h e

  head_inside : (o : ℕ) → o < length m.orders → head_of heads o < length m.orders
  head_inside o h = omega (arith, grouped.grouping.before o (omega (arith, is.heads_size)))

  refute : (value : ℕ → ℤ) (pi : List ℤ) → AreAtHeads heads value pi → All IsPrice pi → (lambda mu : ℤ) → IsPrice lambda → IsPrice mu → pos 0 ≤ℤ lambda → pos 0 ≤ℤ mu → IfNone node.limits.loss (lambda ≡ pos 0) → IfNone node.limits.count (mu ≡ pos 0)
      → ((c : Column) → IsLegalColumn m c → column_agrees decisions c ≡ true → (o : ℕ) → o < length m.orders → has c.orders o ≡ true → value (head_of heads o) ≤ℤ (lambda *ℤ pos (loss_of m c) +ℤ charge (free_prices m lambda mu pi) c.kind))
      → (lambda *ℤ number_of node.limits.loss +ℤ mu *ℤ number_of node.limits.count) <ℤ total_below (length heads) (at_heads heads value)
      → Refutes m node.limits decisions (free_prices m lambda mu pi)
  refute value pi at range lambda mu p q r t u v cheap worth = group_prices_refute m node.limits decisions heads is.slabs is.heads_size of grouped.grouping.before grouped.grouping.fixed value pi at range lambda mu p q r t u v cheap worth

  -- ---- a group that fits no slab

  places_right : length s.plan.place ≡ length m.orders
  places_right = omega (arith, is.built.size, is.heads_size)

  pub misfit_of : (rule : Illegal) → first_broken m s.plan ≡ Some rule → IsMisfit m s.plan rule
  misfit_of rule broken = first_misfit m s.plan rule places_right (λ o h. is.built.within o (omega (arith, is.built.size))) (used_once m heads is.slabs kinds s.plan.kinds s.plan.place grouped is.are is.built) broken

  -- the head of an order on a slab that doesn't fit
  pub misfit_refutes : (k o : ℕ) (pi : List ℤ) → k < length s.plan.kinds → (Fits m (slab s.plan k) → ⊥) → o < length heads → get_or s.plan.place o 0 ≡ k → AreAtHeads heads (only (head_of heads o)) pi → All IsPrice pi → Refutes m node.limits decisions (free_prices m (pos 0) (pos 0) pi)
  misfit_refutes k o pi inside misfit l there at range =
      refute (only (head_of heads o)) pi at range (pos 0) (pos 0) zero_is_price zero_is_price (omega (arith, ints)) (omega (arith, ints)) (missing node.limits.loss) (missing node.limits.count) cheap
      (omega (arith, ints, total, zero-*ℤ (number_of node.limits.loss), zero-*ℤ (number_of node.limits.count)))
    where
      low : o < length m.orders
      low = omega (arith, is.heads_size)

      -- the slab is the group's
      column : slab s.plan k ≡ group_column heads kinds (head_of heads o)
      column =
          let it = slab_is m heads is.slabs kinds s.plan.kinds s.plan.place grouped is.are is.built k inside in
          let same : it.head ≡ head_of heads o = sym it.of ∙ is.built.parted it.order o it.inside l (it.there ∙ sym there) in
          it.column ∙ ap (group_column heads kinds) same

      charge_zero : (kind : Kind) → charge (free_prices m (pos 0) (pos 0) pi) kind ≡ pos 0
      charge_zero (New u) = refl
      charge_zero (Old t) = zero_price (length m.yard) t

      cheap : (c : Column) → IsLegalColumn m c → column_agrees decisions c ≡ true → (j : ℕ) → j < length m.orders → has c.orders j ≡ true → only (head_of heads o) (head_of heads j) ≤ℤ (pos 0 *ℤ pos (loss_of m c) +ℤ charge (free_prices m (pos 0) (pos 0) pi) c.kind)
      cheap c legal allowed j h e = elim (cases_eq (head_of heads o) (head_of heads j)) [
        | inl q ↦ absurd (misfit (subst (Fits m) (sym (column ∙ ap (group_column heads kinds) q)) (group_fits m heads is.slabs kinds c (head_of heads j) (is.are.each (head_of heads j) (head_inside j h)) (of c legal allowed j h e) legal.fits)))
        | inr ne ↦ omega (arith, ints, ap (λ (b : Bool). cond b (pos 1) (pos 0)) (ne_eqb (head_of heads o) (head_of heads j) ne), zero-*ℤ (pos (loss_of m c)), charge_zero c.kind)
      ]

      total : total_below (length heads) (at_heads heads (only (head_of heads o))) ≡ pos 1
      total =
          total_below-ext (length heads) (at_heads heads (only (head_of heads o))) (λ i. cond (eqb (head_of heads o) i) (pos 1) (pos 0)) (λ i h. cell i)
          ∙ one_term (length heads) (head_of heads o) (λ _. pos 1) (omega (arith, grouped.grouping.before o l))
        where
          neither : (b : Bool) → cond b (pos 0) (pos 0) ≡ pos 0
          neither true = refl
          neither false = refl

          cell : (i : ℕ) → at_heads heads (only (head_of heads o)) i ≡ cond (eqb (head_of heads o) i) (pos 1) (pos 0)
          cell i = elim (cases_eq (head_of heads o) i) [
            | inl q ↦ rw (eq-eqb (head_of heads i) i (ap (head_of heads) (sym q) ∙ grouped.grouping.fixed o l ∙ q), eq-eqb (head_of heads o) i q) refl
            | inr ne ↦ rw (ne_eqb (head_of heads o) i ne) (neither (eqb (head_of heads i) i))
          ]

  -- what the number of a rule's slab says
  pub rule_slab : (rule : Illegal) (k : ℕ) → first_broken m s.plan ≡ Some rule → slab_number rule ≡ Some k → (k < length s.plan.kinds) × (Fits m (slab s.plan k) → ⊥)
  rule_slab rule k broken number =
      let it = misfit_of rule broken in
      let same : it.slab_is ≡ k = some it.slab_is (sym it.number ∙ number) in
      (subst (λ (j : ℕ). j < length s.plan.kinds) same it.inside, subst (λ (j : ℕ). Fits m (slab s.plan j) → ⊥) same it.misfit)
    where
      some : (j : ℕ) → Some j ≡ Some k → j ≡ k
      some j e = cc

  -- each slab has an order
  pub slab_order : (k : ℕ) → k < length s.plan.kinds → (o : ℕ) × (o < length s.plan.place) × (get_or s.plan.place o 0 ≡ k)
  slab_order k h = let it = slab_is m heads is.slabs kinds s.plan.kinds s.plan.place grouped is.are is.built k h in (it.order, omega (arith, it.inside, is.built.size), it.there)

  pub own_head : (o : ℕ) → o < length heads → head_of heads (head_of heads o) ≡ head_of heads o
  own_head o h = grouped.grouping.fixed o h

  pub head_below : (o : ℕ) → o < length heads → head_of heads o < length heads
  head_below o h = omega (arith, grouped.grouping.before o h)

  -- ---- a legal plan

  module _ (legal : IsLegal m s.plan) where
    pub fit : (head : ℕ) → head < length m.orders → head_of heads head ≡ head → Fits m (group_column heads kinds head)
    fit = groups_fit m heads is.slabs kinds s.plan.kinds s.plan.place grouped is.are is.built legal

    pub loss_refutes : (pi : List ℤ) → IsSomeAnd node.limits.loss (λ a. a <ℤ pos (sums_of m s.plan).loss) → AreAtHeads heads (group_loss m heads kinds) pi → All IsPrice pi → Refutes m node.limits decisions (free_prices m (pos 1) (pos 0) pi)
    loss_refutes pi high at range =
        let limit = (stands_at node.limits.loss (λ a. a <ℤ pos (sums_of m s.plan).loss) high).0 in
        let stands : node.limits.loss ≡ Some limit = (stands_at node.limits.loss (λ a. a <ℤ pos (sums_of m s.plan).loss) high).1 in
        let above : limit <ℤ pos (sums_of m s.plan).loss = (stands_at node.limits.loss (λ a. a <ℤ pos (sums_of m s.plan).loss) high).2 in
        refute (group_loss m heads kinds) pi at range (pos 1) (pos 0) one_is_price zero_is_price (omega (arith, ints)) (omega (arith, ints)) (stood node.limits.loss limit stands) (missing node.limits.count) cheap
        (omega (arith, ints, ap number_of stands, above, plan_loss m heads is.slabs kinds s.plan.kinds s.plan.place grouped is.are is.built fit, zero-*ℤ (number_of node.limits.count)))
      where
        charge_zero : (kind : Kind) → charge (free_prices m (pos 1) (pos 0) pi) kind ≡ pos 0
        charge_zero (New u) = refl
        charge_zero (Old t) = zero_price (length m.yard) t

        cheap : (c : Column) → IsLegalColumn m c → column_agrees decisions c ≡ true → (o : ℕ) → o < length m.orders → has c.orders o ≡ true → group_loss m heads kinds (head_of heads o) ≤ℤ (pos 1 *ℤ pos (loss_of m c) +ℤ charge (free_prices m (pos 1) (pos 0) pi) c.kind)
        cheap c allowed_legal allowed o h e = omega (arith, ints, own_loss m heads is.slabs kinds c (head_of heads o) (is.are.each (head_of heads o) (head_inside o h)) (of c allowed_legal allowed o h e) allowed_legal.fits, charge_zero c.kind)

    pub count_refutes : (pi : List ℤ) → IsSomeAnd node.limits.count (λ b. b <ℤ pos (sums_of m s.plan).count) → AreAtHeads heads (group_count kinds) pi → All IsPrice pi → Refutes m node.limits decisions (free_prices m (pos 0) (pos 1) pi)
    count_refutes pi high at range =
        let limit = (stands_at node.limits.count (λ b. b <ℤ pos (sums_of m s.plan).count) high).0 in
        let stands : node.limits.count ≡ Some limit = (stands_at node.limits.count (λ b. b <ℤ pos (sums_of m s.plan).count) high).1 in
        let above : limit <ℤ pos (sums_of m s.plan).count = (stands_at node.limits.count (λ b. b <ℤ pos (sums_of m s.plan).count) high).2 in
        refute (group_count kinds) pi at range (pos 0) (pos 1) zero_is_price one_is_price (omega (arith, ints)) (omega (arith, ints)) (missing node.limits.loss) (stood node.limits.count limit stands) cheap
        (omega (arith, ints, ap number_of stands, above, plan_count m heads is.slabs kinds s.plan.kinds s.plan.place grouped is.are is.built, zero-*ℤ (number_of node.limits.loss)))
      where
        charge_is : (kind : Kind) → charge (free_prices m (pos 0) (pos 1) pi) kind ≡ pos (cond (is_new kind) 1 0)
        charge_is (New u) = refl
        charge_is (Old t) = zero_price (length m.yard) t

        cheap : (c : Column) → IsLegalColumn m c → column_agrees decisions c ≡ true → (o : ℕ) → o < length m.orders → has c.orders o ≡ true → group_count kinds (head_of heads o) ≤ℤ (pos 0 *ℤ pos (loss_of m c) +ℤ charge (free_prices m (pos 0) (pos 1) pi) c.kind)
        cheap c allowed_legal allowed o h e =
            let same : is_new (kind_at kinds (head_of heads o)) ≡ is_new c.kind = group_is_new m heads is.slabs kinds c (head_of heads o) (is.are.each (head_of heads o) (head_inside o h)) (of c allowed_legal allowed o h e) in
            omega (arith, ints, ap (λ (b : Bool). pos (cond b 1 0)) same, charge_is c.kind, zero-*ℤ (pos (loss_of m c)))

    pub in_box : IsWithin (sums_of m s.plan) node.limits → IsInBox m node.limits decisions s.plan
    in_box within = record {
      legal = legal;
      order = plan_in_order m heads is.slabs kinds s.plan.kinds s.plan.place grouped is.are is.built;
      within = within;
      agrees = plan_agrees m decisions a is.node_is.consistent.1 heads is.slabs is.heads_size is.slabs_size is.firsts is.puts kinds s.plan.kinds s.plan.place is.node_is.asks is.are is.built;
    }
