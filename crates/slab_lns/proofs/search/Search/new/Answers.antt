use Rattle.std.proofs.Common.{◌≡◌, ℕ, length, List, subst, sym, ap, ap₂, ◌∙◌, arith}
use Rattle.mill_model.specs.Columns.{Column}
use Rattle.mill_model.specs.Plans.{Plan, sums_of}
use Rattle.mill_model.specs.Starts.{IsStart}
use Rattle.mill_model.proofs.PlanCover.{slabs_at_most_orders}
use Rattle.slab_filling.specs.Closing.{plan_of}
use Rattle.slab_lns.specs.Neighbourhoods.{slabs_of}
use Rattle.slab_lns.proofs.PlanSlabs.{plan_same, length-slabs_of}
use Rattle.slab_lns.proofs.search.Search.new.Goals as goal

pub returns-clause-at : goal.returns-clause-at
returns-clause-at c =
    let m = c.args.mill.now in
    ap₂ (λ (p : Plan) (l : ℕ). record { plan = p; last = l }) (ap (plan_of (length m.orders)) c.in_ok-slabs.ensures ∙ plan_same m c.args.plan.now c.requires.legal) c.in_ok-new.ensures

pub returns-clause-sound : goal.returns-clause-sound
returns-clause-sound c =
    let m = c.args.mill.now in
    let p = c.args.plan.now in
    let same : plan_of (length m.orders) c.in_ok-slabs.slabs.items ≡ p = ap (plan_of (length m.orders)) c.in_ok-slabs.ensures ∙ plan_same m p c.requires.legal in
    record {
      start = subst (IsStart m c.args.limit) (sym same) c.requires;
      slabs = ap slabs_of same ∙ sym c.in_ok-slabs.ensures;
      sums = c.sums_of_start-sums.ensures ∙ ap (sums_of m) (sym same);
      sizes = let a = c.table.view_is in let b = c.in_ok-table.ensures in cc;
      few = omega (arith, slabs_at_most_orders m p c.requires.legal, length-slabs_of p, ap (λ (slabs : List Column). length slabs) c.in_ok-slabs.ensures, c.orders-count.ensures.limits.order_count);
    }
