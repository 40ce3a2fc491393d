use Rattle.std.proofs.Common.{rules, ◌≡◌, ◌<◌, arith, ap, ◌∙◌, to_z, of_z, length}
use Rattle.std.specs.Prelude.{ℤ, ◌+ℤ◌, ◌*ℤ◌, FitsSigned}
use Rattle.std.specs.Int.{w64, w128}
use Rattle.std.proofs.lemmas.Int.{to_z-of_z}
use Rattle.slab_master.specs.Sums.{number_at}
use Rattle.slab_master.proofs.Products.{cost_step}
use Rattle.slab_master.proofs.check_least.cost_total.Goals as goal

pub loop-j-preserved : goal.loop-j-preserved
loop-j-preserved c =
    let inside : c.loop-j.j < length c.args.multipliers.now = omega (arith, c.requires, c.loop-j-test.true) in
    let number : ℤ = number_at c.args.multipliers.now c.loop-j.j in
    let cost : ℤ = number_at c.args.costs.now c.loop-j.j in
    let number_fits : FitsSigned w64 number = search rules in
    let cost_fits : FitsSigned w64 cost = search rules in
    let term : c.term.result ≡ number *ℤ cost = simp to_z-of_z at c.term.ensures in
    let term_fits : FitsSigned w128 c.term.result = search rules in
    let total_fits : FitsSigned w128 c.in_ok-total.total = search rules in
    let sum : c.in_ok-total.total ≡ to_z w128 c.loop-j.total-bits +ℤ to_z w128 (of_z w128 c.term.result) = c.in_ok-total.ensures.1 in
    cost_step c.args.multipliers.now c.args.costs.now c.loop-j.j (to_z w128 c.loop-j.total-bits) (to_z w128 (of_z w128 c.in_ok-total.total)) inside c.loop-j-test.true
    (to_z-of_z w128 c.in_ok-total.total total_fits ∙ sum ∙ ap (λ (z : ℤ). to_z w128 c.loop-j.total-bits +ℤ z) (to_z-of_z w128 c.term.result term_fits ∙ term))
    c.loop-j.invariant
