use Rattle.std.proofs.Common.{ℤ, ◌+ℤ◌, ap, ap₂, ◌∙◌, arith}
use Rattle.std.proofs.lemmas.Int.{ints}
use Rattle.mill_model.specs.SignedSums.{total_by}
use Rattle.mill_model.specs.Limits.{number_of}
use Rattle.slab_tree.proofs.Sums.{cost_back, back, less_same, product_same}
use Rattle.slab_tree.proofs.bounding.is_worth.Goals as goal

pub overflow_add-cost : goal.overflow_add-cost
overflow_add-cost c = omega (arith, ints, c.product.ensures.small, c.product-2.ensures.small, c.total.ensures.small)

pub returns : goal.returns
returns c =
    let p = c.args.prices.now in
    let loss = product_same c.product.result p.lambda c.lambda.result (number_of c.args.limits.loss) c.lambda.ensures.range.lambda c.lambda.ensures.value c.product.ensures.value in
    let count = product_same c.product-2.result p.mu c.mu.result (number_of c.args.limits.count) c.mu.ensures.range.mu c.mu.ensures.value c.product-2.ensures.value in
    let slabs = c.total.ensures.value ∙ ap (λ qs. total_by (λ (q : ℤ). q) qs) c.sigma.ensures.value in
    let orders = c.total-2.ensures.value ∙ ap (λ qs. total_by (λ (q : ℤ). q) qs) c.pi.ensures.value in
    less_same _ _ _ _
    (cost_back c.product.result c.product-2.result c.total.result c.product.ensures.small c.product-2.ensures.small c.total.ensures.small ∙ ap₂ (λ u v. u +ℤ v) (ap₂ (λ u v. u +ℤ v) loss count) slabs)
    (back c.total-2.result c.total-2.ensures.small ∙ orders)
