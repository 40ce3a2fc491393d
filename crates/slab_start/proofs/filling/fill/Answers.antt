use Rattle.std.proofs.Common.{◌≡◌, ℕ, Bool, List, drop, get_or, ◌+◌, Some, None, sym, ap, ◌∙◌}
use Rattle.std.specs.Bool.{then_some}
use Rattle.std.specs.Option.{option_and_then}
use Rattle.std.proofs.lemmas.List.{at_drop_more, at_drop_all}
use Rattle.slab_start.specs.FirstFit.{place_order, place_orders}
use Rattle.slab_start.proofs.filling.fill.Goals as goal

pub returns-then-not-branch : goal.returns-then-not-branch
returns-then-not-branch c =
    let m = c.args.mill.now in
    let os = c.args.orders.now in
    let none : place_order m c.args.limit (get_or os c.loop-order.order-index 0) c.loop-order.slabs.items ≡ None =
    c.in_ok-place_order.ensures ∙ ap (λ (b : Bool). then_some b c.place_order.new.slabs.items) c.if-not-branch.true in
    sym (at_drop_more (λ (ks : List ℕ). place_orders m c.args.limit ks c.loop-order.slabs.items) os c.loop-order.order-index 0 c.loop-order-test.true
    ∙ ap (option_and_then (place_orders m c.args.limit (drop (c.loop-order.order-index + 1) os))) none)
    ∙ c.loop-order.invariant

pub loop-order-preserved : goal.loop-order-preserved
loop-order-preserved c =
    let m = c.args.mill.now in
    let os = c.args.orders.now in
    let some : place_order m c.args.limit (get_or os c.loop-order.order-index 0) c.loop-order.slabs.items ≡ Some c.place_order.new.slabs.items =
    c.in_ok-place_order.ensures ∙ ap (λ (b : Bool). then_some b c.place_order.new.slabs.items) c.if-not-branch.false in
    sym (at_drop_more (λ (ks : List ℕ). place_orders m c.args.limit ks c.loop-order.slabs.items) os c.loop-order.order-index 0 c.loop-order-test.true
    ∙ ap (option_and_then (place_orders m c.args.limit (drop (c.loop-order.order-index + 1) os))) some)
    ∙ c.loop-order.invariant

pub returns : goal.returns
returns c =
    sym (at_drop_all (λ (ks : List ℕ). place_orders c.args.mill.now c.args.limit ks c.loop-order.slabs.items) c.args.orders.now c.loop-order.order-index c.loop-order-test.false)
    ∙ c.loop-order.invariant
