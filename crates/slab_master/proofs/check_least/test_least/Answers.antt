use Rattle.std.proofs.Common.{rules, ◌≡◌, sym, ◌∙◌, ap, refl, length}
use Rattle.std.specs.Prelude.{ℤ, pos, FitsSigned, unsigned_abs, ◌*ℤ◌}
use Rattle.std.specs.Int.{w64}
use Rattle.std.proofs.lemmas.Int.{to_z-of_z}
use Rattle.std.proofs.lemmas.List.{length-map}
use Rattle.slab_master.specs.Denominators.{StandsOver}
use Rattle.slab_master.specs.Given.{columns_of}
use Rattle.slab_master.specs.Least.{AreDualPrices, AreWorthTheCost}
use Rattle.slab_master.specs.Sums.{right_product, cost_sum}
use Rattle.slab_master.proofs.Duality.{least_by_duals}
use Rattle.slab_master.proofs.Ratios.{worth_at_every}
use Rattle.slab_master.proofs.check_least.test_least.Goals as goal

pub returns-then-is_worth-clause-holds : goal.returns-then-is_worth-clause-holds
returns-then-is_worth-clause-holds c d same =
    let rows = c.args.problem.now.rows.now in
    let columns = columns_of c.args.problem.now.columns.now in
    let costs = c.args.problem.now.costs.now in
    let denominator : ℤ = c.in-Holds.denominator in
    let other : ℤ = c.in-Holds-test_duals.other in
    let fits : FitsSigned w64 c.in-Holds.denominator = search rules in
    let other_fits : FitsSigned w64 c.in-Holds-test_duals.other = search rules in
    let multipliers : StandsOver denominator c.args.x.now c.test_spread.new.scaled = c.in-Holds.ensures.scaled denominator refl in
    let numbers : StandsOver other c.args.y.now c.test_duals.new.scaled = c.in-Holds-test_duals.ensures.scaled other refl in
    let duals : AreDualPrices rows columns costs c.args.y.now = c.in-Holds-test_duals.ensures.holds other refl in
    let value : right_product c.test_duals.new.scaled rows *ℤ pos (unsigned_abs denominator) ≡ cost_sum c.test_spread.new.scaled costs *ℤ pos (unsigned_abs other) =
    ap (λ (z : ℤ). right_product c.test_duals.new.scaled rows *ℤ z) (multipliers.denominator.1 ∙ sym (to_z-of_z w64 denominator fits))
    ∙ c.if-is_worth.ensures refl
    ∙ ap (λ (z : ℤ). cost_sum c.test_spread.new.scaled costs *ℤ z) (to_z-of_z w64 other other_fits ∙ sym numbers.denominator.1) in
    let worth : AreWorthTheCost rows costs c.args.x.now c.args.y.now =
    worth_at_every rows costs c.args.x.now c.args.y.now (unsigned_abs denominator) (unsigned_abs other) c.test_spread.new.scaled c.test_duals.new.scaled multipliers.denominator.0 numbers.denominator.0 multipliers.scaled numbers.scaled value in
    let priced : length costs ≡ length columns = simp length-map c.requires.costs in
    record {
      spread = c.in-Holds.ensures.holds denominator refl;
      duals = duals;
      worth = worth;
      least = least_by_duals rows columns costs c.args.x.now c.args.y.now priced duals worth;
    }
