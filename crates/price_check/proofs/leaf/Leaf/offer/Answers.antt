use Rattle.std.proofs.Common.{◌≡◌, length, sym, ◌∙◌}
use Rattle.pricing_laws.specs.Packs.{IsOnNew, IsOnYard}
use Rattle.price_check.specs.Leaves.{problem_of}
use Rattle.price_check.proofs.Answering.{answer_both, answer_empty, answer_found}
use Rattle.pricing_laws.proofs.Packs.{on_some_slab}
use Rattle.price_check.proofs.leaf.Leaf.offer.Goals as goal

pub returns-then-is_some : goal.returns-then-is_some
returns-then-is_some c = answer_found (problem_of c.args.self.now) c.args.orders.now c.offer_new-found.result (IsOnNew c.args.orders.now) (λ d. d.orders ≡ c.args.orders.now) (sym c.is_some.ensures ∙ c.if-is_some.true) c.offer_new-found.ensures

pub returns : goal.returns
returns c =
    let q = problem_of c.args.self.now in
    let orders = c.args.orders.now in
    answer_both q orders c.offer_yard.result (IsOnNew orders) (IsOnYard (length q.mill.yard) orders) (λ d. d.orders ≡ orders) (on_some_slab q orders)
    (answer_empty q orders c.offer_new-found.result (IsOnNew orders) (sym c.is_some.ensures ∙ c.if-is_some.false) c.offer_new-found.ensures) c.offer_yard.ensures
