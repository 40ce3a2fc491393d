use Rattle.std.proofs.Common.{refl, arith}
use Rattle.std.proofs.lemmas.Int.{ints}
use Rattle.mill_model.specs.Limits.{number_of}
use Rattle.mill_model.proofs.PriceSums.{back, less_same, product_same, costs_same}
use Rattle.mill_model.proofs.lent_prices.LentPrices.is_worth.Goals as goal

pub overflow_add-cost : goal.overflow_add-cost
overflow_add-cost c = omega (arith, ints, c.product.ensures.small, c.product-2.ensures.small, c.total.ensures.small)

pub returns : goal.returns
returns c =
    let p = c.args.self.now in
    let loss = product_same c.product.result p.lambda p.lambda (number_of c.args.limits.loss) p.range.lambda refl c.product.ensures.value in
    let count = product_same c.product-2.result p.mu p.mu (number_of c.args.limits.count) p.range.mu refl c.product-2.ensures.value in
    less_same _ _ _ _
    (costs_same c.product.result c.product-2.result c.total.result _ _ _ c.product.ensures.small c.product-2.ensures.small c.total.ensures.small loss count c.total.ensures.value)
    (back c.total-2.result _ c.total-2.ensures.small c.total-2.ensures.value)
