use Rattle.std.proofs.Common.{ap, arith}
use Rattle.std.specs.Prelude.{reverse}
use Rattle.slab_decide.proofs.Kept.{kept_none}
use Rattle.slab_decide.proofs.decisions.Decisions.new.Goals as goal

pub invariant_of-result : goal.invariant_of-result
invariant_of-result c = (
  kept_none (record { orders = c.args.orders; yard = c.args.yard; list = reverse c.in_ok-list.list.items }) c.in_ok-relations.relations c.requires.orders c.requires.yard
      (ap reverse c.in_ok-list.ensures.items) c.in_ok-relations.ensures.slabs c.in_ok-relations.ensures.count c.in_ok-relations.ensures.undecided c.in_ok-relations.ensures.relations,
  omega (arith, c.in_ok-list.ensures.capacity),
)
