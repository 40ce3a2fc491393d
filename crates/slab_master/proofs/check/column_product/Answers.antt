use Rattle.std.proofs.Common.{rules, ◌≡◌, ap, ◌∙◌, to_z, of_z, get_or}
use Rattle.std.specs.Prelude.{ℤ, pos, ◌+ℤ◌, ◌*ℤ◌, FitsSigned}
use Rattle.std.specs.Int.{w64, w128}
use Rattle.std.proofs.lemmas.Int.{to_z-of_z}
use Rattle.slab_master.specs.Given.{Entry}
use Rattle.slab_master.specs.Sums.{number_at}
use Rattle.slab_master.proofs.Products.{product_step}
use Rattle.slab_master.proofs.check.column_product.Goals as goal

pub loop-row-preserved : goal.loop-row-preserved
loop-row-preserved c =
    let d : Entry = (0, pos 0) in
    let number : ℤ = number_at c.args.numbers.now (get_or c.args.column.now c.loop-row.row-index d).0 in
    let entry : ℤ = (get_or c.args.column.now c.loop-row.row-index d).1 in
    let number_fits : FitsSigned w64 number = search rules in
    let entry_fits : FitsSigned w64 entry = search rules in
    let term : c.term.result ≡ number *ℤ entry = simp to_z-of_z at c.term.ensures in
    let term_fits : FitsSigned w128 c.term.result = search rules in
    let total_fits : FitsSigned w128 c.in_ok-total.total = search rules in
    let sum : c.in_ok-total.total ≡ to_z w128 c.loop-row.total-bits +ℤ to_z w128 (of_z w128 c.term.result) = c.in_ok-total.ensures.1 in
    product_step c.args.numbers.now c.args.column.now c.loop-row.row-index d (to_z w128 c.loop-row.total-bits) (to_z w128 (of_z w128 c.in_ok-total.total)) c.loop-row-test.true
    (to_z-of_z w128 c.in_ok-total.total total_fits ∙ sum ∙ ap (λ (z : ℤ). to_z w128 c.loop-row.total-bits +ℤ z) (to_z-of_z w128 c.term.result term_fits ∙ term))
    c.loop-row.invariant
