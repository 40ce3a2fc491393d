use Rattle.std.proofs.Common.{length, List}
use Rattle.mill_model.specs.declared.limits.Limits.{Limits}
use Rattle.mill_model.specs.declared.mark.Mark.{Mark}
use Rattle.mill_model.specs.Mill.{Mill}
use Rattle.mill_model.specs.Prices.{Prices}
use Rattle.mill_model.specs.Trees.{Tree}
use Rattle.tree_nodes.specs.declared.node.Node.{Node}
use Rattle.cert_trim.specs.Walks.{IsEnd, StaysFor}
use Rattle.cert_trim.proofs.walk.Walk.finish.Given as goal

abbrev pub invariant-loop : goal.invariant-loop
invariant-loop l = record {
  same : StaysFor l.fn.self l.self;
  ends : (m : Mill) (limits : Limits) (whole : Tree Mark Prices) (rest : List Node) → IsEnd m limits whole l.fn.self rest → IsEnd m limits whole l.self rest;
}

abbrev pub decreases-loop : goal.decreases-loop
decreases-loop l = length l.self.path.decisions
