use Rattle.std.proofs.Common.{◌+◌, ◌∙◌, sym}
use Rattle.slab_closure.proofs.GroupSizes.{started_sizes}
use Rattle.slab_closure.proofs.closure.Closure.new.Goals as goal

pub invariant_of-result : goal.invariant_of-result
invariant_of-result c = (
  c.in_ok-square.ensures.relations,
  c.in_ok-sizes.ensures.len ∙ sym c.in_ok-square.ensures.count,
  started_sizes c.in_ok-square.square (c.args.slabs + c.args.orders) c.in_ok-sizes.sizes.items c.in_ok-square.ensures.undecided c.in_ok-square.ensures.count (c.in_ok-sizes.ensures.items_if_clones_equal (λ y e. e)),
)
