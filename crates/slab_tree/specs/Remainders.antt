-- The nodes of a tree that are left, and what is left behind whole trees.
use Rattle.std.specs.Prelude.{ℕ, zero, suc, List, [], ◌∷◌}
use Rattle.slab_tree.specs.declared.node.Node.{Node}
use Rattle.slab_tree.specs.declared.node.Node.TheVariants.{Closed, Branched}

-- the nodes behind so many trees, as far as there are any
abbrev pub after_trees : ℕ → List Node → List Node
after_trees k [] = []
after_trees zero (n ∷ ns) = n ∷ ns
after_trees (suc k) (Closed p ∷ ns) = after_trees k ns
after_trees (suc k) (Branched ask mark ∷ ns) = after_trees (suc (suc k)) ns
