use Rattle.std.proofs.Common.{refl, ◌≡◌, ℕ, ◌+◌, ◌-◌, ◌^◌, ◌<◌, ◌≤◌, pos, ◌≤ℤ◌, ℤ, List, length, get_or, set, sym, subst, ap, ◌∙◌, arith, to_z, of_z}
use Rattle.std.specs.Prelude.{unsigned_abs}
use Rattle.std.specs.Int.{w128}
use Rattle.std.proofs.lemmas.Int.{ints}
use Rattle.std.proofs.lemmas.List.{get_or_default, length-replicate}
use Rattle.std.proofs.Math.ListN.{replicate}
use Rattle.mill_model.specs.declared.order.Order.{Order}
use Rattle.pricing_laws.specs.Colours.{colour_at}
use Rattle.pricing_laws.specs.Worths.{AreWorths, worth_at, worth_of}
use Rattle.pricing_laws.proofs.Numbers.{max_small, sum_back}
use Rattle.pricing_laws.proofs.Worths.{worths_more, worths_none, zeros}
use Rattle.price_check.proofs.leaf.Leaf.fill_worths.Goals as goal

pub loop-at-init : goal.loop-at-init
loop-at-init c =
    let t = c.args.self.now in
    let made : c.clear_worths.new.worths.items ≡ replicate (t.mill.now.colours + 1) (pos 0) = c.clear_worths.ensures.items ∙ ap (λ n. replicate (n + 1) (pos 0)) c.colours.ensures.value in
    record {
      room = c.clear_worths.ensures.room;
      within = omega (arith, ap (λ (os : List Order). length os) c.orders-at.ensures.value);
      worths = subst (λ (n : ℕ). AreWorths t.mill.now t.quote.now c.args.groups.now n c.clear_worths.new.worths.items) (ap (λ (os : List Order). length os) (sym c.orders-at.ensures.value)) (subst (AreWorths t.mill.now t.quote.now c.args.groups.now (length t.mill.now.orders)) (sym made)
          (worths_none t.mill.now t.quote.now c.args.groups.now (replicate (t.mill.now.colours + 1) (pos 0)) (length-replicate (t.mill.now.colours + 1) (pos 0)) (zeros (t.mill.now.colours + 1))));
    }

pub overflow_add-index : goal.overflow_add-index
overflow_add-index c =
    let t = c.args.self.now in
    let next : c.loop-at.at ≡ c.loop-at.at - 1 + 1 = omega (arith, c.loop-at-test.true) in
    let lt : c.loop-at.at - 1 < length t.mill.now.orders = omega (arith, next, c.loop-at.invariant.within) in
    let known : colour_at t.mill.now (c.loop-at.at - 1) ≤ t.mill.now.colours = (t.asked.limits.order_colours (c.loop-at.at - 1) (record { weight = 0; colour = 0 }) lt).1 in
    let entry : unsigned_abs (worth_of c.loop-at.worths.items (colour_at t.mill.now (c.loop-at.at - 1))) ≤ 2 ^ 94 = omega (arith, t.asked.limits.order_count, c.loop-at.invariant.worths.small (colour_at t.mill.now (c.loop-at.at - 1))) in
    let read : c.index.result.now ≡ worth_of c.loop-at.worths.items (colour_at t.mill.now (c.loop-at.at - 1)) =
    c.index.ensures ∙ ap (λ (os : List Order). get_or c.loop-at.worths.items (get_or os (c.loop-at.at - 1) (record { weight = 0; colour = 0 })).colour c.index.result.now) c.orders.ensures.value
    ∙ get_or_default c.loop-at.worths.items (colour_at t.mill.now (c.loop-at.at - 1)) c.index.result.now (pos 0) (omega (arith, known, c.loop-at.invariant.worths.size)) in
    let back : to_z w128 (of_z w128 c.worth.result) ≡ c.worth.result = omega (arith, ints, c.worth.ensures.small) in
    let small : unsigned_abs c.max.result ≤ 2 ^ 86 = max_small (2 ^ 86) (to_z w128 (of_z w128 c.worth.result)) (pos 0) c.max.result c.max.ensures.value (omega (arith, ints, back, c.worth.ensures.small)) (omega arith) in
    omega (arith, ints, read, entry, small)

pub loop-at-preserved : goal.loop-at-preserved
loop-at-preserved c =
    let t = c.args.self.now in
    let next : c.loop-at.at ≡ c.loop-at.at - 1 + 1 = omega (arith, c.loop-at-test.true) in
    let lt : c.loop-at.at - 1 < length t.mill.now.orders = omega (arith, next, c.loop-at.invariant.within) in
    let known : colour_at t.mill.now (c.loop-at.at - 1) ≤ t.mill.now.colours = (t.asked.limits.order_colours (c.loop-at.at - 1) (record { weight = 0; colour = 0 }) lt).1 in
    let entry : unsigned_abs (worth_of c.loop-at.worths.items (colour_at t.mill.now (c.loop-at.at - 1))) ≤ 2 ^ 94 = omega (arith, t.asked.limits.order_count, c.loop-at.invariant.worths.small (colour_at t.mill.now (c.loop-at.at - 1))) in
    let read : c.index.result.now ≡ worth_of c.loop-at.worths.items (colour_at t.mill.now (c.loop-at.at - 1)) =
    c.index.ensures ∙ ap (λ (os : List Order). get_or c.loop-at.worths.items (get_or os (c.loop-at.at - 1) (record { weight = 0; colour = 0 })).colour c.index.result.now) c.orders.ensures.value
    ∙ get_or_default c.loop-at.worths.items (colour_at t.mill.now (c.loop-at.at - 1)) c.index.result.now (pos 0) (omega (arith, known, c.loop-at.invariant.worths.size)) in
    let back : to_z w128 (of_z w128 c.worth.result) ≡ c.worth.result = omega (arith, ints, c.worth.ensures.small) in
    let small : unsigned_abs c.max.result ≤ 2 ^ 86 = max_small (2 ^ 86) (to_z w128 (of_z w128 c.worth.result)) (pos 0) c.max.result c.max.ensures.value (omega (arith, ints, back, c.worth.ensures.small)) (omega arith) in
    let covers : worth_at t.quote.now c.args.groups.now (c.loop-at.at - 1) ≤ℤ c.max.result = omega (arith, ints, back, c.worth.ensures.worth, c.max.ensures.self_bound) in
    let sign : pos 0 ≤ℤ c.max.result = omega (arith, ints, c.max.ensures.other_bound) in
    let worths : AreWorths t.mill.now t.quote.now c.args.groups.now (c.loop-at.at - 1 + 1) c.loop-at.worths.items = subst (λ (k : ℕ). AreWorths t.mill.now t.quote.now c.args.groups.now k c.loop-at.worths.items) next c.loop-at.invariant.worths in
    record {
      room = c.loop-at.invariant.room;
      within = omega (arith, c.loop-at.invariant.within);
      worths = rw c.orders.ensures.value (subst (λ (z : ℤ). AreWorths t.mill.now t.quote.now c.args.groups.now (c.loop-at.at - 1) (set c.loop-at.worths.items (colour_at t.mill.now (c.loop-at.at - 1)) z))
          (sym (sum_back c.index.result.now c.max.result (worth_of c.loop-at.worths.items (colour_at t.mill.now (c.loop-at.at - 1))) c.max.result read refl (omega (arith, entry)) (omega (arith, small))))
          (worths_more t.mill.now t.quote.now c.args.groups.now (c.loop-at.at - 1) c.loop-at.worths.items c.max.result lt known covers sign small worths));
    }
