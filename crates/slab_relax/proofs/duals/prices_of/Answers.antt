use Rattle.std.proofs.Common.{rules, arith, ◌≡◌, ◌+◌, ◌-◌, ℕ, sym, subst, ap, ap₂, ◌∙◌, length, map, take, drop, List, ℤ, pos, to_z, of_z, All, get_or}
use Rattle.std.specs.Prelude.{FitsSigned}
use Rattle.std.specs.Int.{w64}
use Rattle.std.proofs.lemmas.Int.{to_z-of_z}
use Rattle.mill_model.specs.Prices.{ArePrices, IsPrice}
use Rattle.slab_master.specs.Sums.{number_at}
use Rattle.slab_relax.specs.Rows.{loss_row, count_row}
use Rattle.slab_relax.specs.Duals.{turned, price_of, prices_of}
use Rattle.slab_relax.proofs.Refuting.{prices_in_range}
use Rattle.slab_relax.proofs.duals.prices_of.Goals as goal

pub new-requires : goal.new-requires
new-requires c =
    let whole : ArePrices (prices_of c.args.mill.now c.args.limits c.args.numbers.now) = prices_in_range c.args.mill.now c.args.limits c.args.numbers.now c.requires.size c.requires.range in
    let orders : length c.orders-first.result.now ≡ length c.args.mill.now.orders = ap length c.orders-first.ensures.value in
    let yard : length c.yard.result.now ≡ length c.args.mill.now.yard = ap length c.yard.ensures.value in
    let between : (length c.orders-first.result.now + length c.yard.result.now) - length c.orders-first.result.now ≡ length c.args.mill.now.yard = omega (arith, yard) in
    let first : ℤ = get_or c.args.numbers.now (length c.orders-first.result.now + length c.yard.result.now) (pos 0) in
    let second : ℤ = get_or c.args.numbers.now (length c.orders-first.result.now + length c.yard.result.now + 1) (pos 0) in
    let first_fits : FitsSigned w64 first = search rules in
    let second_fits : FitsSigned w64 second = search rules in
    let lambda_fits : FitsSigned w64 c.price_of-lambda.result = search rules in
    let mu_fits : FitsSigned w64 c.price_of-mu.result = search rules in
    let pi : c.in_ok-pi.pi.items ≡ take (length c.args.mill.now.orders) c.args.numbers.now = c.in_ok-pi.ensures.items ∙ ap (λ (i : ℕ). take i c.args.numbers.now) orders in
    let sigma : c.in_ok-sigma.sigma.items ≡ map turned (take (length c.args.mill.now.yard) (drop (length c.args.mill.now.orders) c.args.numbers.now)) = c.in_ok-sigma.ensures ∙ ap₂ (λ (i j : ℕ). map turned (take i (drop j c.args.numbers.now))) between orders in
    let lambda : to_z w64 (of_z w64 c.price_of-lambda.result) ≡ price_of c.args.limits.loss (number_at c.args.numbers.now (loss_row c.args.mill.now)) =
    to_z-of_z w64 c.price_of-lambda.result lambda_fits ∙ c.price_of-lambda.ensures ∙ ap (price_of c.args.limits.loss) (to_z-of_z w64 first first_fits) ∙ ap₂ (λ (i j : ℕ). price_of c.args.limits.loss (number_at c.args.numbers.now (i + j))) orders yard in
    let mu : to_z w64 (of_z w64 c.price_of-mu.result) ≡ price_of c.args.limits.count (number_at c.args.numbers.now (count_row c.args.mill.now)) =
    to_z-of_z w64 c.price_of-mu.result mu_fits ∙ c.price_of-mu.ensures ∙ ap (price_of c.args.limits.count) (to_z-of_z w64 second second_fits) ∙ ap₂ (λ (i j : ℕ). price_of c.args.limits.count (number_at c.args.numbers.now (i + j + 1))) orders yard in
    record {
      lambda = subst IsPrice (sym lambda) whole.lambda;
      mu = subst IsPrice (sym mu) whole.mu;
      pi = subst (λ (l : List ℤ). All IsPrice l) (sym pi) whole.pi;
      sigma = subst (λ (l : List ℤ). All IsPrice l) (sym sigma) whole.sigma;
    }
