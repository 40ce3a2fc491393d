use Rattle.std.proofs.Common.{rules, arith, ◌≡◌, ◌<◌, ap, ◌∙◌, to_z, of_z, get_or, length, Vec, Global}
use Rattle.std.specs.Prelude.{ℤ, ◌+ℤ◌, ◌*ℤ◌, FitsSigned}
use Rattle.std.specs.Int.{w64, w128}
use Rattle.std.proofs.lemmas.Int.{to_z-of_z}
use Rattle.slab_master.specs.Given.{Entry, Column}
use Rattle.slab_master.specs.Sums.{number_at, coefficient}
use Rattle.slab_master.proofs.Products.{row_step}
use Rattle.slab_master.proofs.check.row_total.Goals as goal

pub loop-j-preserved : goal.loop-j-preserved
loop-j-preserved c =
    let inside : c.loop-j.j < length c.args.multipliers.now = omega (arith, c.requires, c.loop-j-test.true) in
    let number : ℤ = number_at c.args.multipliers.now c.loop-j.j in
    let number_fits : FitsSigned w64 number = search rules in
    let more_fits : FitsSigned w128 c.in_ok-more.more = search rules in
    let total_fits : FitsSigned w128 c.in_ok-total.total = search rules in
    let more : c.in_ok-more.more ≡ number *ℤ coefficient c.as_slice.result.now c.args.row = simp to_z-of_z at c.in_ok-more.ensures in
    let items : c.as_slice.result.now ≡ (get_or c.args.columns.now c.loop-j.j c.index-columns-j.result).items =
    c.as_slice.ensures.value ∙ ap (λ (v : Vec Entry Global). v.items) c.index-columns-j.is in
    let sum : c.in_ok-total.total ≡ to_z w128 c.loop-j.total-bits +ℤ to_z w128 (of_z w128 c.in_ok-more.more) = c.in_ok-total.ensures.1 in
    row_step c.args.multipliers.now c.args.columns.now c.args.row c.loop-j.j c.index-columns-j.result (to_z w128 c.loop-j.total-bits) (to_z w128 (of_z w128 c.in_ok-total.total)) inside c.loop-j-test.true
    (to_z-of_z w128 c.in_ok-total.total total_fits ∙ sum ∙ ap (λ (z : ℤ). to_z w128 c.loop-j.total-bits +ℤ z)
    (to_z-of_z w128 c.in_ok-more.more more_fits ∙ more ∙ ap (λ (es : Column). number *ℤ coefficient es c.args.row) items))
    c.loop-j.invariant
