use Rattle.std.proofs.Common.{length, List, []}
use Rattle.mill_model.specs.declared.mark.Mark.{Mark}
use Rattle.mill_model.specs.Prices.{Prices}
use Rattle.mill_model.specs.Trees.{Tree}
use Rattle.mill_model.specs.Marks.{HasRightMarks}
use Rattle.tree_nodes.specs.declared.node.Node.{Node}
use Rattle.cert_trim.specs.Walks.{AreFew, IsFor, IsUp}
use Rattle.cert_trim.proofs.walk.Walk.climb.Given as goal

abbrev pub invariant-loop-first : goal.invariant-loop-first
invariant-loop-first l = record {
  same : IsFor l.mill l.self;
  up : (whole : Tree Mark Prices) (rest : List Node) → HasRightMarks l.mill l.limits whole [] → AreFew rest → IsUp l.mill l.limits whole l.fn.self l.leads l.prices rest → IsUp l.mill l.limits whole l.self l.first l.prices rest;
}

abbrev pub decreases-loop-first : goal.decreases-loop-first
decreases-loop-first l = length l.self.path.decisions
