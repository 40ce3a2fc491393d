use Rattle.std.proofs.Common.{rules, ◌≡◌, length, pos, All, sym, subst, replicate}
use Rattle.std.specs.Prelude.{FitsSigned}
use Rattle.std.specs.Int.{w64}
use Rattle.std.proofs.lemmas.Int.{to_z-of_z}
use Rattle.mill_model.specs.Prices.{IsPrice}
use Rattle.mill_model.proofs.PlainPrices.{zeros_are_prices}
use Rattle.slab_node.proofs.plain.bare_prices.Goals as goal

pub new-requires : goal.new-requires
new-requires c =
    let lambda_fits : FitsSigned w64 c.args.lambda = search rules in
    let mu_fits : FitsSigned w64 c.args.mu = search rules in
    let pi_is : c.in_ok-pi.pi.items ≡ replicate (length c.args.mill.now.orders) (pos 0) = search rules in
    let sigma_is : c.in_ok-sigma.sigma.items ≡ replicate (length c.args.mill.now.yard) (pos 0) = search rules in
    record {
      lambda = subst IsPrice (sym (to_z-of_z w64 c.args.lambda lambda_fits)) c.requires.lambda;
      mu = subst IsPrice (sym (to_z-of_z w64 c.args.mu mu_fits)) c.requires.mu;
      pi = subst (All IsPrice) (sym pi_is) (zeros_are_prices (length c.args.mill.now.orders));
      sigma = subst (All IsPrice) (sym sigma_is) (zeros_are_prices (length c.args.mill.now.yard));
    }
