use Rattle.std.proofs.Common.{ℕ, ◌≤◌, List, Contains, sym, subst, arith}
use Rattle.std.proofs.lemmas.Int.{ints}
use Rattle.std.proofs.lemmas.List.Elements.{All-contains}
use Rattle.mill_model.specs.LeastSizes.{IsLeastSize}
use Rattle.pricing_laws.proofs.Excesses.{cost_rises}
use Rattle.price_check.proofs.leaf.Leaf.end_of_new.Goals as goal

pub returns-in-Some-clause-most : goal.returns-in-Some-clause-most
returns-in-Some-clause-most c = λ size stock holds.
    let t = c.args.self.now in
    let least : IsLeastSize c.sizes.result.now c.args.load c.in-Some.size = c.in-Some.ensures.some in
    let le : c.in-Some.size ≤ size = All-contains (λ other. c.args.load ≤ other → c.in-Some.size ≤ other) c.sizes.result.now size least.least (subst (λ (xs : List ℕ). Contains xs size) (sym c.sizes.ensures.value) stock) holds in
    omega (arith, ints, cost_rises t.mill.now t.quote.now c.in-Some.size size t.asked.sign le, c.cost.ensures.cost, c.cost.ensures.small)
