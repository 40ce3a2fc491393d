-- The one plan of settled decisions.
use Rattle.std.specs.Prelude.{◌≡◌, ℕ, List, length, Option}
use Rattle.mill_model.specs.declared.sums.Sums.{Sums}
use Rattle.mill_model.specs.Plans.{sums_of}
use Rattle.mill_model.specs.Decisions.{AreAsks}
use Rattle.mill_model.specs.Assignments.{AreSettled}
use Rattle.slab_decide.specs.Decided.{AreConsistent}
use Rattle.slab_relax.specs.declared.node.Node.{Node}
use Rattle.slab_node.specs.declared.settlement.Settlement.{Settlement}
use Rattle.slab_node.specs.Grouped.{AreKinds}
use Rattle.slab_node.specs.Built.{IsBuilt}
use Rattle.slab_node.specs.Settled.{AreFirsts, AreSlabs}

-- a node whose decisions are settled
pub record IsSettledNode (node : Node) : Type 0 where
  pub settled : AreSettled node.mill.now node.decisions.now.list
  pub asks : AreAsks node.mill.now node.decisions.now.list
  pub consistent : AreConsistent node.decisions.now.list

-- the groups of a node's settled decisions, the slab of each, and the plan of these
pub record IsSettlement (node : Node) (s : Settlement) : Type 0 where
  pub node_is : IsSettledNode node
  pub slabs : List (Option ℕ)
  pub heads_size : length s.heads.items ≡ length node.mill.now.orders
  pub slabs_size : length slabs ≡ length node.mill.now.orders
  pub firsts : AreFirsts node.decisions.now.list s.heads.items
  pub puts : AreSlabs node.decisions.now.list (length node.mill.now.yard) slabs
  pub are : AreKinds node.mill.now s.heads.items slabs s.kinds.items
  pub built : IsBuilt s.heads.items s.kinds.items (length s.heads.items) s.plan.kinds s.plan.place

-- what the plan sums to
abbrev pub sums_by : Node → Settlement → Sums
sums_by node s = sums_of node.mill.now s.plan
