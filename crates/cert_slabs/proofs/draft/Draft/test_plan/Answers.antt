use Rattle.std.proofs.Common.{◌≡◌, ◌≤◌, ◌<◌, ◌-◌, List, ap, ap₂, inl, refl, sym, subst, ◌∙◌, length, sum_by, count_by, arith}
use Rattle.mill_model.specs.declared.kind.Kind.{Kind}
use Rattle.mill_model.specs.declared.order.Order.{Order}
use Rattle.mill_model.specs.declared.sums.Sums.{Sums}
use Rattle.mill_model.specs.Columns.{Column, size_of as size_of_kind}
use Rattle.mill_model.specs.Plans.{is_new}
use Rattle.cert_slabs.specs.Drafts.{Draft, IsDraft}
use Rattle.cert_slabs.proofs.PlanLines.{all_placed, one_unplaced, sums_broken, plan_kept}
use Rattle.cert_slabs.proofs.draft.Draft.test_plan.Goals as goal
use Rattle.cert_slabs.proofs.draft.Draft.test_plan.Goals.{then-loss_of-sums-via-then-loss_of-sums, then-loss_of-sums-via-else-loss_of-sums+then-new_slabs-sums}

pub returns-then-self-len-clause-rules : goal.returns-then-self-len-clause-rules
returns-then-self-len-clause-rules c = λ slabs is.
    let d : Draft = record { kinds = c.self.inside.kinds.items; placed = c.self.inside.placed.items } in
    let inside : c.self.inside.next < length c.self.inside.placed.items = omega (arith, c.if-self-len.true, c.len.ensures, c.self.inside.placed.ok) in
    inl (one_unplaced c.args.mill.now slabs d (subst (IsDraft c.args.mill.now slabs) (sym c.self.view_is) is) c.self.inside.next inside (c.self.invariant.free inside), refl)

pub returns-then-loss_of-sums-clause-rules : goal.returns-then-loss_of-sums-clause-rules
returns-then-loss_of-sums-clause-rules c = λ slabs is.
    let d : Draft = record { kinds = c.self.inside.kinds.items; placed = c.self.inside.placed.items } in
    let drafted = subst (IsDraft c.args.mill.now slabs) (sym c.self.view_is) is in
    let most : length c.self.inside.placed.items ≤ c.self.inside.next = omega (arith, c.if-self-len.false, c.len.ensures, c.self.inside.placed.ok) in
    sums_broken c.args.mill.now slabs d drafted c.args.sums (all_placed c.args.mill.now slabs d drafted c.self.inside.next most c.self.invariant.below) (λ e. elim c.then-loss_of-sums.branch [
      | then-loss_of-sums-via-then-loss_of-sums w ↦ w.if-loss_of-sums.true (c.loss_of.ensures ∙ ap (λ (ks : List Kind). sum_by (size_of_kind c.args.mill.now) ks - sum_by (λ (order : Order). order.weight) c.args.mill.now.orders) c.deref.ensures.value ∙ ap (λ (s : Sums). s.loss) e)
      | then-loss_of-sums-via-else-loss_of-sums+then-new_slabs-sums w ↦ w.if-new_slabs-sums.true (w.new_slabs.ensures ∙ ap (λ (ks : List Kind). count_by is_new ks) w.deref-else-loss_of-sums.ensures.value ∙ ap (λ (s : Sums). s.count) e)
    ])

pub returns-clause-rules : goal.returns-clause-rules
returns-clause-rules c = λ slabs is.
    let d : Draft = record { kinds = c.self.inside.kinds.items; placed = c.self.inside.placed.items } in
    let drafted = subst (IsDraft c.args.mill.now slabs) (sym c.self.view_is) is in
    let most : length c.self.inside.placed.items ≤ c.self.inside.next = omega (arith, c.if-self-len.false, c.len.ensures, c.self.inside.placed.ok) in
    plan_kept c.args.mill.now slabs d drafted c.args.sums (all_placed c.args.mill.now slabs d drafted c.self.inside.next most c.self.invariant.below) (ap₂ (λ a b. let s : Sums = record { loss = a; count = b } in s)
    (sym (ap (λ (ks : List Kind). sum_by (size_of_kind c.args.mill.now) ks - sum_by (λ (order : Order). order.weight) c.args.mill.now.orders) c.deref.ensures.value) ∙ sym c.loss_of.ensures ∙ c.if-loss_of-sums.false)
    (sym (ap (λ (ks : List Kind). count_by is_new ks) c.deref-else-loss_of-sums.ensures.value) ∙ sym c.new_slabs.ensures ∙ c.if-new_slabs-sums.false))
