use Rattle.std.proofs.Common.{◌≡◌, ◌≤◌, length, ap, arith}
use Rattle.std.proofs.lemmas.Result.{err_from_is_err_and}
use Rattle.mill_model.specs.declared.kind.Kind.{Kind}
use Rattle.std.proofs.Common.{List}
use Rattle.mill_model.specs.Judging.{breaks, slab_rules}
use Rattle.mill_model.proofs.Rules.{sound_slabs}
use Rattle.mill_model.proofs.FirstBroken.{find-flat_map_none, find-flat_map_some}
use Rattle.mill_model.proofs.judge.judge_slabs.Goals as goal

pub overflow_cast-k : goal.overflow_cast-k
overflow_cast-k c =
    let few : length c.args.mill.now.orders ≤ 250 = c.orders-orders.ensures.limits.order_count in
    omega (arith, sound_slabs c.args.mill.now c.args.plan.now c.loop-k.k c.loop-k.invariant, few, c.requires)

pub returns-in_err-judge_slab : goal.returns-in_err-judge_slab
returns-in_err-judge_slab c =
    let p = err_from_is_err_and c.from_residual.result c.from_residual.ensures.1 in
    let slabs : length c.kinds-k-end.result.now ≡ length c.args.plan.now.kinds = ap (λ (kinds : List Kind). length kinds) c.kinds-k-end.ensures in
    rw (p.1, p.2) (find-flat_map_some (breaks c.args.mill.now c.args.plan.now) slab_rules 0 (length c.args.plan.now.kinds) c.loop-k.k c.in_err-judge_slab.field-0.0 (omega arith) (omega (arith, slabs, c.loop-k-test.true)) (λ j low high. c.loop-k.invariant j high) c.in_err-judge_slab.ensures)

pub returns : goal.returns
returns c =
    let slabs : length c.kinds-k-end.result.now ≡ length c.args.plan.now.kinds = ap (λ (kinds : List Kind). length kinds) c.kinds-k-end.ensures in
    find-flat_map_none (breaks c.args.mill.now c.args.plan.now) slab_rules 0 (length c.args.plan.now.kinds) (λ j low high. c.loop-k.invariant j (omega (arith, slabs, c.loop-k-test.false)))
