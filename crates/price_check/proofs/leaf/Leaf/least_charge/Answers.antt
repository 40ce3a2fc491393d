use Rattle.std.proofs.Common.{◌≡◌, ◌<◌, pos, ◌≤ℤ◌, ℤ, List, length, get_or, below_more, ap, arith, to_z, of_z}
use Rattle.std.specs.Int.{w64}
use Rattle.std.proofs.lemmas.Int.{ints, int_min_is}
use Rattle.mill_model.specs.Prices.{IsPrice}
use Rattle.price_check.proofs.leaf.Leaf.least_charge.Goals as goal

pub loop-charge-preserved : goal.loop-charge-preserved
loop-charge-preserved c =
    let same = c.sigma-charge-items.ensures.value in
    let sigma = c.args.self.now.quote.now.sigma in
    let lt : c.loop-charge.charge-index < length sigma = omega (arith, c.loop-charge-test.true, ap (λ (xs : List ℤ). length xs) same) in
    let here : IsPrice (get_or sigma c.loop-charge.charge-index (pos 0)) = c.sigma-charge-items.ensures.range.sigma c.loop-charge.charge-index (pos 0) lt in
    let next : get_or c.sigma-charge-items.result.now c.loop-charge.charge-index (pos 0) ≡ get_or sigma c.loop-charge.charge-index (pos 0) = ap (λ (xs : List ℤ). get_or xs c.loop-charge.charge-index (pos 0)) same in
    let back : to_z w64 (of_z w64 c.min-least.result) ≡ c.min-least.result = omega (arith, ints) in
    let before : c.min-least.result ≤ℤ to_z w64 c.loop-charge.least-bits = omega (arith, ints, c.min-least.ensures.self_bound) in
    let after : c.min-least.result ≤ℤ get_or sigma c.loop-charge.charge-index (pos 0) = omega (arith, ints, c.min-least.ensures.other_bound, next, here) in
    rw back (record {
      price = (omega (arith, ints, c.min-least.ensures.value, int_min_is, next, here, c.loop-charge.invariant.price), omega (arith, ints, before, c.loop-charge.invariant.price));
      cast = omega (arith, ints, before, c.loop-charge.invariant.cast);
      yard = below_more (λ k. c.min-least.result ≤ℤ get_or sigma k (pos 0)) c.loop-charge.charge-index (λ k h. omega (arith, ints, before, c.loop-charge.invariant.yard k h)) after;
    })
