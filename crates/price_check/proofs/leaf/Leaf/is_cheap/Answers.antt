use Rattle.std.proofs.Common.{◌≡◌, ◌+◌, ◌-◌, ◌*◌, ◌<◌, ◌≤◌, pos, ◌+ℤ◌, ◌^◌, ℕ, List, length, sym, subst, ap, arith, to_z, of_z}
use Rattle.std.specs.Prelude.{unsigned_abs}
use Rattle.std.specs.Int.{w128}
use Rattle.std.proofs.lemmas.Int.{ints}
use Rattle.mill_model.specs.declared.order.Order.{Order}
use Rattle.price_check.proofs.CheapOrders.{AreWorthAtMost, worth_more, worth_none}
use Rattle.price_check.proofs.leaf.Leaf.is_cheap.Goals as goal

pub loop-at-init : goal.loop-at-init
loop-at-init c =
    let t = c.args.self.now in
    let count : length c.orders-at.result.now ≡ length t.mill.now.orders = ap (λ (os : List Order). length os) c.orders-at.ensures.value in
    record {
      within = omega (arith, count);
      worth = subst (λ (n : ℕ). AreWorthAtMost t.mill.now t.quote.now c.room_of-room.result n (pos 0)) (sym count) (worth_none t.mill.now t.quote.now c.room_of-room.result);
    }

pub loop-at-preserved : goal.loop-at-preserved
loop-at-preserved c =
    let t = c.args.self.now in
    let next : c.loop-at.at ≡ c.loop-at.at - 1 + 1 = omega (arith, c.loop-at-test.true) in
    let lt : c.loop-at.at - 1 < length t.mill.now.orders = omega (arith, next, c.loop-at.invariant.within) in
    let before : AreWorthAtMost t.mill.now t.quote.now c.room_of-room.result (c.loop-at.at - 1 + 1) (to_z w128 c.loop-at.worth-bits) = subst (λ (k : ℕ). AreWorthAtMost t.mill.now t.quote.now c.room_of-room.result k (to_z w128 c.loop-at.worth-bits)) next c.loop-at.invariant.worth in
    let small : unsigned_abs (to_z w128 c.loop-at.worth-bits) ≤ 250 * 2 ^ 62 = omega (arith, t.asked.limits.order_count, before.small) in
    let sum : to_z w128 (of_z w128 ((to_z w128 c.loop-at.worth-bits) +ℤ to_z w128 (of_z w128 c.most_worth-worth.result))) ≡ (to_z w128 c.loop-at.worth-bits) +ℤ c.most_worth-worth.result = omega (arith, ints, small, c.most_worth-worth.ensures.small) in
    record {
      within = omega (arith, c.loop-at.invariant.within);
      worth = subst (AreWorthAtMost t.mill.now t.quote.now c.room_of-room.result (c.loop-at.at - 1)) (sym sum)
          (worth_more t.mill.now t.quote.now c.room_of-room.result (c.loop-at.at - 1) (to_z w128 c.loop-at.worth-bits) c.most_worth-worth.result lt c.most_worth-worth.ensures.sign c.most_worth-worth.ensures.small c.most_worth-worth.ensures.most before);
    }
