-- What plans and questions are to a node.
use Rattle.mill_model.specs.declared.ask.Ask.{Ask}
use Rattle.mill_model.specs.Plans.{Plan}
use Rattle.mill_model.specs.Prices.{Prices}
use Rattle.slab_relax.specs.declared.node.Node.{Node}
use Rattle.slab_node.specs.FirstPrices.{IsFirstStated}
use Rattle.slab_node.specs.Turns.{IsInBox, IsOpenAsk}

-- a legal plan in order, within the node's limits, that agrees with its decisions
abbrev pub IsInBoxAt : Node → Plan → Type 0
IsInBoxAt node plan = IsInBox node.mill.now node.limits node.decisions.now.list plan

-- a question of the mill that the node's decisions leave open
abbrev pub IsOpenAskAt : Node → Ask → Type 0
IsOpenAskAt node ask = IsOpenAsk node.mill.now node.decisions.now.list ask

-- the first prices that the node's settled groups state
abbrev pub IsFirstStatedAt : Node → Prices → Type 0
IsFirstStatedAt node p = IsFirstStated node.mill.now node.limits node.decisions.now.list p
