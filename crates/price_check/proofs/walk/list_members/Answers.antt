use Rattle.std.proofs.Common.{ℕ, sym, ap, ◌∙◌, Vec, Global, vec_capacity}
use Rattle.pricing_laws.proofs.Steps.{listed_with, listed_without}
use Rattle.price_check.proofs.walk.list_members.Goals.{then-contains, else-contains}
use Rattle.price_check.proofs.walk.list_members.Goals as goal

pub loop-order-preserved : goal.loop-order-preserved
loop-order-preserved c =
    elim c.if-contains.branch [
      | then-contains w ↦ record {
        listed = listed_with c.args.heads.now c.args.chosen.now c.loop-order.orders.items c.if-contains.orders.items c.loop-order.order c.loop-order-test.true c.loop-order.invariant.listed (sym c.contains.ensures.value ∙ w.if-contains.true)
            (ap (λ (v : Vec ℕ Global). v.items) w.orders-is ∙ w.push_reserved.ensures.items);
        room = ap (λ (v : Vec ℕ Global). vec_capacity v) w.orders-is ∙ w.push_reserved.ensures.capacity ∙ c.loop-order.invariant.room;
      }
      | else-contains w ↦ record {
        listed = listed_without c.args.heads.now c.args.chosen.now c.loop-order.orders.items c.if-contains.orders.items c.loop-order.order c.loop-order-test.true c.loop-order.invariant.listed (sym c.contains.ensures.value ∙ w.if-contains.false) (ap (λ (v : Vec ℕ Global). v.items) w.orders-is);
        room = ap (λ (v : Vec ℕ Global). vec_capacity v) w.orders-is ∙ c.loop-order.invariant.room;
      }
    ]
