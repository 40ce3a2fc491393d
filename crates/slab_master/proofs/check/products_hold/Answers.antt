use Rattle.std.proofs.Common.{◌≡◌, arith, ap, ◌∙◌, subst, Vec, Global}
use Rattle.std.specs.Prelude.{ℤ, pos, ◌≤ℤ◌, All}
use Rattle.std.proofs.lemmas.Int.{ints}
use Rattle.std.proofs.lemmas.List.{take_all}
use Rattle.std.proofs.lemmas.List.Elements.{All-more}
use Rattle.slab_master.specs.Given.{Entry}
use Rattle.slab_master.specs.Sums.{product_of}
use Rattle.slab_master.proofs.check.products_hold.Goals as goal

pub loop-column-preserved : goal.loop-column-preserved
loop-column-preserved c =
    let product : c.in-Some.product ≡ product_of c.args.numbers.now c.column-item.result.items =
    c.in-Some.ensures ∙ ap (product_of c.args.numbers.now) c.as_slice.ensures.value in
    let small : c.in-Some.product ≤ℤ pos 0 = omega (arith, ints, c.if-product-le0.true) in
    let here : product_of c.args.numbers.now c.column-item.result.items ≤ℤ pos 0 = subst (λ (z : ℤ). z ≤ℤ pos 0) product small in
    All-more (λ (v : Vec Entry Global). product_of c.args.numbers.now v.items ≤ℤ pos 0) c.args.columns.now c.loop-column.column-index c.column-item.result c.loop-column-test.true c.loop-column.invariant
    (subst (λ (v : Vec Entry Global). product_of c.args.numbers.now v.items ≤ℤ pos 0) c.column-item.is here)

pub returns : goal.returns
returns c holds =
    subst (All (λ (v : Vec Entry Global). product_of c.args.numbers.now v.items ≤ℤ pos 0)) (take_all c.loop-column.column-index c.args.columns.now (omega arith)) c.loop-column.invariant
