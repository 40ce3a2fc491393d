use Rattle.std.proofs.Common.{◌≡◌, ℕ, List, [], Some, sym, ap, ◌∙◌, arith}
use Rattle.slab_start.specs.FirstFit.{by_weight, place_orders}
use Rattle.slab_start.proofs.Started.{few_slabs, length-by_weight, first_fit_starts}
use Rattle.slab_start.proofs.first_fit.FirstFitStarter.start.Goals as goal

pub plan_of_slabs-requires : goal.plan_of_slabs-requires
plan_of_slabs-requires c =
    let m = c.args.mill.now in
    let filled = rw c.in-Some.is at c.in_ok-slabs.ensures in
    let placed : place_orders m c.args.count (by_weight m) [] ≡ Some c.in-Some.slabs.items =
    ap (λ (os : List ℕ). place_orders m c.args.count os []) (sym (c.deref.ensures.value ∙ c.in_ok-orders.ensures.orders)) ∙ sym filled in
    omega (arith, few_slabs m c.args.count (by_weight m) [] c.in-Some.slabs.items placed, length-by_weight m, c.in_ok-orders.ensures.limits.order_count)

pub returns-in-Some-clause-legal : goal.returns-in-Some-clause-legal
returns-in-Some-clause-legal c =
    let m = c.args.mill.now in
    let filled = rw c.in-Some.is at c.in_ok-slabs.ensures in
    let placed : place_orders m c.args.count (by_weight m) [] ≡ Some c.in-Some.slabs.items =
    ap (λ (os : List ℕ). place_orders m c.args.count os []) (sym (c.deref.ensures.value ∙ c.in_ok-orders.ensures.orders)) ∙ sym filled in
    rw c.in_ok-plan_of_slabs-in-Some.ensures (first_fit_starts m c.args.count c.in-Some.slabs.items c.in_ok-orders.ensures.limits (sym c.if-not-can_start.ensures) placed)
