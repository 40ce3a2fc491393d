-- Asks as pairs of nodes: the surplus slabs come first, then the orders.
use Rattle.std.specs.Prelude.{ℕ, ◌+◌, Bool, true, false}
use Rattle.mill_model.specs.declared.ask.Ask.{Ask}
use Rattle.mill_model.specs.declared.ask.Ask.TheVariants.{Pair, Put}
use Rattle.slab_closure.specs.declared.relation.Relation.{Relation}
use Rattle.slab_closure.specs.declared.relation.Relation.TheVariants.{Same, Apart}

abbrev pub first_node : ℕ → Ask → ℕ
first_node yard (Pair i j) = yard + i
first_node yard (Put o s) = yard + o

abbrev pub second_node : ℕ → Ask → ℕ
second_node yard (Pair i j) = yard + j
second_node yard (Put o s) = s

-- the relation that an answer demands
abbrev pub relation_of : Bool → Relation
relation_of true = Same
relation_of false = Apart
