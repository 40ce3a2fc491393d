use Rattle.std.proofs.Common.{ℤ, pos, ◌+◌, ◌*◌, ◌^◌, ◌≤◌, get_or, subst, sym, ◌∙◌, to_z, arith}
use Rattle.std.specs.Prelude.{unsigned_abs}
use Rattle.std.specs.Int.{w128}
use Rattle.mill_model.specs.Prices.{IsPrice}
use Rattle.mill_model.proofs.PriceSums.{total_more, sum_back, sum_bound}
use Rattle.mill_model.proofs.lent_prices.total.Goals as goal

pub loop-price-preserved : goal.loop-price-preserved
loop-price-preserved c =
    let i = c.loop-price.price-index in
    let sum : ℤ = to_z w128 c.loop-price.sum-bits in
    let price : IsPrice (get_or c.args.prices.now c.loop-price.price-index (pos 0)) = c.requires c.loop-price.price-index (pos 0) c.loop-price-test.true in
    let small : unsigned_abs (to_z w128 c.loop-price.sum-bits) ≤ c.loop-price.price-index * 2 ^ 62 = c.loop-price.invariant.small in
    let back = sum_back sum (get_or c.args.prices.now i (pos 0)) c.from-sum.result (omega (arith, small, c.loop-price-test.true)) price c.from-sum.ensures in
    record {
      value = back ∙ total_more c.args.prices.now i sum c.loop-price-test.true c.loop-price.invariant.value;
      small = subst (λ (z : ℤ). unsigned_abs z ≤ (c.loop-price.price-index + 1) * 2 ^ 62) (sym back) (sum_bound sum (get_or c.args.prices.now i (pos 0)) i small price);
    }
