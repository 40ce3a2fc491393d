-- What is left behind whole trees.
use Rattle.std.proofs.Common.{◌≡◌, ℕ, zero, suc, ◌+◌, ◌≤◌, List, [], ◌∷◌, ◌++◌, refl, sym, ap, ◌∙◌, append_assoc, subst, arith, length}
use Rattle.mill_model.specs.declared.mark.Mark.{Mark}
use Rattle.mill_model.specs.Prices.{Prices}
use Rattle.mill_model.specs.Trees.{Tree}
use Rattle.mill_model.specs.Trees.Tree.{End, Split}
use Rattle.slab_tree.specs.declared.node.Node.{Node}
use Rattle.slab_tree.specs.declared.node.Node.TheVariants.{Closed, Branched}
use Rattle.slab_tree.specs.Remainders.{after_trees}
use Rattle.slab_tree.specs.Standing.{nodes_of}

pub after_none : (ns : List Node) → after_trees 0 ns ≡ ns
after_none [] = refl
after_none (n ∷ ns) = refl

pub after_one : (k : ℕ) (t : Tree Mark Prices) (more : List Node) → after_trees (suc k) (nodes_of t ++ more) ≡ after_trees k more
after_one k (End p) more = refl
after_one k (Split mark ask left right) more =
    ap (λ ns. after_trees (suc (suc k)) ns) (append_assoc (nodes_of left) (nodes_of right) more) ∙ after_one (suc k) left (nodes_of right ++ more) ∙ after_one k right more

-- behind the two branches of a split
pub after_two : (left right : Tree Mark Prices) (more : List Node) → after_trees 2 ((nodes_of left ++ nodes_of right) ++ more) ≡ more
after_two left right more =
    ap (λ ns. after_trees 2 ns) (append_assoc (nodes_of left) (nodes_of right) more) ∙ after_one 1 left (nodes_of right ++ more) ∙ after_one 0 right more ∙ after_none more
