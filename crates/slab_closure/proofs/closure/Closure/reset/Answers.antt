use Rattle.std.proofs.Common.{vec_len, ◌∙◌, sym}
use Rattle.slab_closure.proofs.GroupSizes.{started_sizes}
use Rattle.slab_closure.proofs.closure.Closure.reset.Goals as goal

pub invariant_of-self : goal.invariant_of-self
invariant_of-self c = (
  c.reset.ensures.relations,
  c.fill.ensures.len ∙ c.self.invariant.1 ∙ sym c.reset.ensures.count,
  started_sizes c.reset.new.self (vec_len c.self.inside.sizes) c.fill.new.self.items c.reset.ensures.undecided (c.reset.ensures.count ∙ sym c.self.invariant.1) (c.fill.ensures.items (λ y e. e)),
)
