-- What prices and covers show of a node.
use Rattle.std.specs.Prelude.{List}
use Rattle.mill_model.specs.Columns.{Column}
use Rattle.mill_model.specs.Prices.{Prices, Refutes}
use Rattle.slab_relax.specs.declared.node.Node.{Node}
use Rattle.slab_relax.specs.PoolCovers.{Parts, IsPoolCover, HasLeastLoss}

-- the prices refute the node's limits under its decisions
abbrev pub RefutesAt : Node → Prices → Type 0
RefutesAt node p = Refutes node.mill.now node.limits node.decisions.now.list p

-- a cover within the node's limits by columns that agree with its decisions
abbrev pub IsCoverAt : Node → List Column → Parts → Type 0
IsCoverAt node columns cover = IsPoolCover node.mill.now node.limits node.decisions.now.list columns cover

-- no such cover has less loss
abbrev pub HasLeastLossAt : Node → List Column → Parts → Type 0
HasLeastLossAt node columns cover = HasLeastLoss node.mill.now node.limits node.decisions.now.list columns cover
