use Rattle.std.proofs.Common.{rules, ◌≡◌, ◌<◌, arith, ap, ◌∙◌, to_z, of_z, get_or, length}
use Rattle.std.specs.Prelude.{ℤ, pos, ◌+ℤ◌, ◌*ℤ◌, FitsSigned}
use Rattle.std.specs.Int.{w64, w128}
use Rattle.std.proofs.lemmas.Int.{to_z-of_z}
use Rattle.slab_master.specs.Given.{Row}
use Rattle.slab_master.specs.Sums.{number_at}
use Rattle.slab_master.specs.declared.given.Sense.TheVariants.{Equal}
use Rattle.slab_master.proofs.Products.{right_step}
use Rattle.slab_master.proofs.check.right_total.Goals as goal

pub loop-i-preserved : goal.loop-i-preserved
loop-i-preserved c =
    let d : Row = (Equal, pos 0) in
    let inside : c.loop-i.i < length c.args.numbers.now = omega (arith, c.requires, c.loop-i-test.true) in
    let number : ℤ = number_at c.args.numbers.now c.loop-i.i in
    let right : ℤ = (get_or c.args.rows.now c.loop-i.i d).1 in
    let number_fits : FitsSigned w64 number = search rules in
    let right_fits : FitsSigned w64 right = search rules in
    let term : c.term.result ≡ number *ℤ right = simp to_z-of_z at c.term.ensures in
    let term_fits : FitsSigned w128 c.term.result = search rules in
    let total_fits : FitsSigned w128 c.in_ok-total.total = search rules in
    let sum : c.in_ok-total.total ≡ to_z w128 c.loop-i.total-bits +ℤ to_z w128 (of_z w128 c.term.result) = c.in_ok-total.ensures.1 in
    right_step c.args.numbers.now c.args.rows.now c.loop-i.i d (to_z w128 c.loop-i.total-bits) (to_z w128 (of_z w128 c.in_ok-total.total)) inside c.loop-i-test.true
    (to_z-of_z w128 c.in_ok-total.total total_fits ∙ sum ∙ ap (λ (z : ℤ). to_z w128 c.loop-i.total-bits +ℤ z) (to_z-of_z w128 c.term.result term_fits ∙ term))
    c.loop-i.invariant
