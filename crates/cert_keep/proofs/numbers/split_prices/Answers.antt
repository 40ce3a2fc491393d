use Rattle.std.proofs.Common.{◌∷◌, ◌∙◌, arith, subst, sym}
use Rattle.mill_model.specs.Prices.{Prices, ArePrices}
use Rattle.cert_keep.proofs.Slabbing.{split_is, are_prices}
use Rattle.cert_keep.proofs.numbers.split_prices.Goals as goal

pub new-requires : goal.new-requires
new-requires c =
    subst (λ (p : Prices). ArePrices p) (sym (split_is c.args.orders c.args.lambda c.args.mu c.args.rest.now c.in_ok-pi.pi.items c.in_ok-sigma.sigma.items c.requires c.in_ok-pi.ensures c.in_ok-sigma.ensures))
    (are_prices c.args.orders (c.args.lambda ∷ c.args.mu ∷ c.args.rest.now) (omega arith) c.requires)

pub returns : goal.returns
returns c = c.new.ensures ∙ split_is c.args.orders c.args.lambda c.args.mu c.args.rest.now c.in_ok-pi.pi.items c.in_ok-sigma.sigma.items c.requires c.in_ok-pi.ensures c.in_ok-sigma.ensures
