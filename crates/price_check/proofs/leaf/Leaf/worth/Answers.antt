use Rattle.std.proofs.Common.{◌*◌, ◌^◌, ◌≤◌, ℤ, pos, sym, subst, ap, ◌∙◌, arith, to_z, of_z}
use Rattle.std.specs.Prelude.{unsigned_abs}
use Rattle.std.specs.Int.{w64}
use Rattle.pricing_laws.specs.Groupings.{weight_at, gain_at}
use Rattle.pricing_laws.proofs.Groupings.{group_light, group_small}
use Rattle.pricing_laws.proofs.Numbers.{less_multiple_back, less_multiple_bound, less_multiple_fits}
use Rattle.price_check.proofs.leaf.Leaf.worth.Goals as goal

pub overflow_sub-result : goal.overflow_sub-result
overflow_sub-result c =
    let t = c.args.self.now in
    let g = c.args.groups.now in
    let light : weight_at g c.args.head ≤ 250 * 10000 = group_light t.mill.now t.trail.now.decisions t.quote.now g c.requires.groups c.args.head c.requires.head in
    let small : unsigned_abs (gain_at g c.args.head) ≤ 2 ^ 84 = omega (arith, group_small t.mill.now t.trail.now.decisions t.quote.now g c.requires.groups c.args.head c.requires.head) in
    less_multiple_fits (gain_at g c.args.head) t.quote.now.lambda (weight_at g c.args.head) c.from.result c.from-2.result c.gain.result small c.lambda.ensures.range.lambda light
    (c.from.ensures ∙ ap (λ z. to_z w64 (of_z w64 z)) c.lambda.ensures.value) (c.from-2.ensures ∙ ap pos c.weight.ensures) c.gain.ensures

pub returns-clause-worth : goal.returns-clause-worth
returns-clause-worth c =
    let t = c.args.self.now in
    let g = c.args.groups.now in
    let light : weight_at g c.args.head ≤ 250 * 10000 = group_light t.mill.now t.trail.now.decisions t.quote.now g c.requires.groups c.args.head c.requires.head in
    let small : unsigned_abs (gain_at g c.args.head) ≤ 2 ^ 84 = omega (arith, group_small t.mill.now t.trail.now.decisions t.quote.now g c.requires.groups c.args.head c.requires.head) in
    less_multiple_back (gain_at g c.args.head) t.quote.now.lambda (weight_at g c.args.head) c.from.result c.from-2.result c.gain.result small c.lambda.ensures.range.lambda light
    (c.from.ensures ∙ ap (λ z. to_z w64 (of_z w64 z)) c.lambda.ensures.value) (c.from-2.ensures ∙ ap pos c.weight.ensures) c.gain.ensures

pub returns-clause-small : goal.returns-clause-small
returns-clause-small c =
    let t = c.args.self.now in
    let g = c.args.groups.now in
    let light : weight_at g c.args.head ≤ 250 * 10000 = group_light t.mill.now t.trail.now.decisions t.quote.now g c.requires.groups c.args.head c.requires.head in
    let small : unsigned_abs (gain_at g c.args.head) ≤ 2 ^ 84 = omega (arith, group_small t.mill.now t.trail.now.decisions t.quote.now g c.requires.groups c.args.head c.requires.head) in
    subst (λ (z : ℤ). unsigned_abs z ≤ 2 ^ 86) (sym (less_multiple_back (gain_at g c.args.head) t.quote.now.lambda (weight_at g c.args.head) c.from.result c.from-2.result c.gain.result small c.lambda.ensures.range.lambda light
    (c.from.ensures ∙ ap (λ z. to_z w64 (of_z w64 z)) c.lambda.ensures.value) (c.from-2.ensures ∙ ap pos c.weight.ensures) c.gain.ensures))
    (less_multiple_bound (gain_at g c.args.head) t.quote.now.lambda (weight_at g c.args.head) small c.lambda.ensures.range.lambda light)
