use Rattle.std.proofs.Common.{◌≡◌, pos, length, ◌-◌, refl, ap, arith}
use Rattle.std.proofs.lemmas.Int.{ints}
use Rattle.mill_model.specs.declared.sums.Sums.{Sums}
use Rattle.slab_sweep.proofs.Heads.{limit_at}
use Rattle.slab_sweep.proofs.points.count_limit.Goals as goal

pub returns-in-Some-clause-value : goal.returns-in-Some-clause-value
returns-in-Some-clause-value c =
    let count : c.sums.result.count ≡ c.in-Some.point.now.sums.count = ap (λ (s : Sums). s.count) c.sums.ensures in
    let wide : c.from.result ≡ pos c.sums.result.count = c.from.ensures in
    limit_at c.args.points.now (length c.args.points.now - 1) c.in-Some.point.now _ refl c.in-Some.ensures.value (omega (arith, ints))
