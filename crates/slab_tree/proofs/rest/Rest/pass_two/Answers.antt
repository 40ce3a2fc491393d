use Rattle.std.proofs.Common.{◌≡◌, ℕ, ap, sym, ◌∙◌, arith}
use Rattle.slab_tree.specs.Remainders.{after_trees}
use Rattle.slab_tree.proofs.Remainders.{after_none}
use Rattle.slab_tree.proofs.rest.Rest.pass_two.Goals as goal

pub returns : goal.returns
returns c =
    let none : c.loop-trees.trees ≡ 0 = omega arith in
    sym (ap (λ (k : ℕ). after_trees k c.loop-trees.self) none ∙ after_none c.loop-trees.self) ∙ c.loop-trees.invariant.left
