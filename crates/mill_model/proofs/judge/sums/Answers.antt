use Rattle.std.proofs.Common.{length, List, ap, sum_by, arith}
use Rattle.mill_model.specs.declared.kind.Kind.{Kind}
use Rattle.mill_model.specs.Columns.{size_of}
use Rattle.mill_model.proofs.PlanCover.{slabs_at_most_orders, weights_within_sizes}
use Rattle.mill_model.proofs.judge.sums.Goals as goal

pub total_size-requires : goal.total_size-requires
total_size-requires c = omega (arith, slabs_at_most_orders c.args.mill.now c.args.plan.now c.requires, c.orders-orders.ensures.limits.order_count, ap (λ (kinds : List Kind). length kinds) c.kinds.ensures)

pub overflow_sub-result : goal.overflow_sub-result
overflow_sub-result c = omega (arith, weights_within_sizes c.args.mill.now c.args.plan.now c.requires, c.total_weight.ensures.value, c.total_size.ensures, ap (λ (kinds : List Kind). sum_by (size_of c.args.mill.now) kinds) c.kinds.ensures)

pub count_new-requires : goal.count_new-requires
count_new-requires c = omega (arith, slabs_at_most_orders c.args.mill.now c.args.plan.now c.requires, c.orders-orders.ensures.limits.order_count, ap (λ (kinds : List Kind). length kinds) c.kinds-2.ensures)
