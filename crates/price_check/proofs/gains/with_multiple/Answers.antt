use Rattle.std.proofs.Common.{ℤ, ◌^◌, ◌≤◌, subst, sym}
use Rattle.std.specs.Prelude.{unsigned_abs}
use Rattle.pricing_laws.proofs.Numbers.{multiple_back, multiple_bound}
use Rattle.price_check.proofs.gains.with_multiple.Goals as goal

pub returns-clause-value : goal.returns-clause-value
returns-clause-value c = multiple_back c.args.price c.args.each c.args.amount c.from.result c.from-2.result c.from-3.result c.requires.price c.requires.each c.requires.amount c.from.ensures c.from-2.ensures c.from-3.ensures

pub returns-clause-small : goal.returns-clause-small
returns-clause-small c =
    subst (λ (z : ℤ). unsigned_abs z ≤ 2 ^ 76) (sym (multiple_back c.args.price c.args.each c.args.amount c.from.result c.from-2.result c.from-3.result c.requires.price c.requires.each c.requires.amount c.from.ensures c.from-2.ensures c.from-3.ensures))
    (multiple_bound c.args.price c.args.each c.args.amount c.requires.price c.requires.each c.requires.amount)
