use Rattle.std.proofs.Common.{rules, ◌≡◌, ◌+◌, true, arith}
use Rattle.slab_closure.specs.Relations.{relation_at}
use Rattle.slab_closure.specs.Sizes.{size_in}
use Rattle.slab_decide.specs.Whole.{slab_in_group, orders_in_group}
use Rattle.slab_decide.proofs.Counted.{orders_in_range, row_whole, whole_orders, whole_size}
use Rattle.slab_decide.proofs.column.is_row_whole.Goals as goal

pub are_orders_beside-requires-clause-orders : goal.are_orders_beside-requires-clause-orders
are_orders_beside-requires-clause-orders c = orders_in_range c.args.relations.now.count c.args.yard (relation_at c.args.relations.now) c.args.kind c.args.orders.now c.requires.nodes

pub orders_in_group-requires-clause-orders : goal.orders_in_group-requires-clause-orders
orders_in_group-requires-clause-orders c = orders_in_range c.args.relations.now.count c.args.yard (relation_at c.args.relations.now) c.args.kind c.args.orders.now c.requires.nodes

pub returns-then-not-are_orders_beside : goal.returns-then-not-are_orders_beside
returns-then-not-are_orders_beside c = (
  λ never. absurd (search rules),
  λ whole. let all = whole_orders c.args.relations.now.count c.args.yard (relation_at c.args.relations.now) c.args.kind c.args.orders.now c.requires.nodes c.args.x whole in absurd (search rules),
)

pub returns : goal.returns
returns c = (
  λ same.
      let told : c.slab_in_group.result + c.orders_in_group.result ≡ c.from.result = search rules in
      let slab : c.is_slab_beside.result ≡ true = search rules in
      let others : c.are_orders_beside.result ≡ true = search rules in
      let equal : slab_in_group (relation_at c.args.relations.now) c.args.kind c.args.x + orders_in_group (relation_at c.args.relations.now) c.args.yard c.args.orders.now c.args.x ≡ size_in c.args.relations.now.count (relation_at c.args.relations.now) c.args.x =
      omega (arith, told, c.from.ensures, c.group_size.ensures, c.slab_in_group.ensures.count, c.orders_in_group.ensures.count) in
      row_whole c.args.relations.now.count c.args.yard (relation_at c.args.relations.now) c.args.kind c.args.orders.now c.requires.nodes c.args.x (c.is_slab_beside.ensures.0 slab) (c.are_orders_beside.ensures.0 others) equal,
  λ whole.
      let equal = whole_size c.args.relations.now.count c.args.yard (relation_at c.args.relations.now) c.args.kind c.args.orders.now c.requires.nodes c.args.x whole in
      let told : c.slab_in_group.result + c.orders_in_group.result ≡ c.from.result = omega (arith, equal, c.from.ensures, c.group_size.ensures, c.slab_in_group.ensures.count, c.orders_in_group.ensures.count) in
      search rules,
)
