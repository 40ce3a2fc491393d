use Rattle.std.proofs.Common.{rules, ◌≡◌, ap, ◌∙◌, to_z, of_z}
use Rattle.std.specs.Prelude.{ℤ, pos, ◌+ℤ◌, FitsSigned}
use Rattle.std.specs.Int.{w64}
use Rattle.std.proofs.lemmas.Int.{to_z-of_z}
use Rattle.slab_master.specs.Given.{Entry}
use Rattle.slab_master.proofs.Products.{coefficient_step}
use Rattle.slab_master.proofs.check.coefficient_at.Goals as goal

pub loop-entry-preserved : goal.loop-entry-preserved
loop-entry-preserved c =
    let d : Entry = (0, pos 0) in
    let number_fits : FitsSigned w64 c.number_in.result = search rules in
    let total_fits : FitsSigned w64 c.in_ok-total.total = search rules in
    let sum : c.in_ok-total.total ≡ to_z w64 c.loop-entry.total-bits +ℤ to_z w64 (of_z w64 c.number_in.result) = c.in_ok-total.ensures.1 in
    coefficient_step c.args.column.now c.args.row c.loop-entry.entry-index d (to_z w64 c.loop-entry.total-bits) (to_z w64 (of_z w64 c.in_ok-total.total)) c.loop-entry-test.true
    (to_z-of_z w64 c.in_ok-total.total total_fits ∙ sum ∙ ap (λ (z : ℤ). to_z w64 c.loop-entry.total-bits +ℤ z) (to_z-of_z w64 c.number_in.result number_fits ∙ c.number_in.ensures))
    c.loop-entry.invariant
