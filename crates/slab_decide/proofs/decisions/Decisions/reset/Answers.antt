use Rattle.std.proofs.Common.{ap, arith, ◌∙◌}
use Rattle.std.specs.Prelude.{reverse}
use Rattle.slab_decide.proofs.Kept.{kept_none}
use Rattle.slab_decide.proofs.decisions.Decisions.reset.Goals as goal

pub invariant_of-self : goal.invariant_of-self
invariant_of-self c = (
  kept_none (record { orders = c.self.inside.orders; yard = c.self.inside.yard; list = reverse c.clear.new.self.items }) c.reset.new.self c.self.invariant.0.decisions.orders c.self.invariant.0.decisions.yard
      (ap reverse c.clear.ensures.items) (c.reset.ensures.slabs ∙ c.self.invariant.0.slabs) (c.reset.ensures.count ∙ c.self.invariant.0.count) c.reset.ensures.undecided c.reset.ensures.relations,
  omega (arith, c.self.invariant.1, c.clear.ensures.capacity),
)
