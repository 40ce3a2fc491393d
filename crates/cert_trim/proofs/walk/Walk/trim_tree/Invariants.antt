use Rattle.std.proofs.Common.{◌≡◌, []}
use Rattle.mill_model.specs.declared.mark.Mark.{Mark}
use Rattle.mill_model.specs.Prices.{Prices}
use Rattle.mill_model.specs.Marks.{HasRightMarks}
use Rattle.mill_model.specs.Trees.{Tree, RefutingTree}
use Rattle.tree_nodes.specs.Nodes.{nodes_of}
use Rattle.cert_trim.specs.Walks.{AreFew, IsFor, IsGoing}
use Rattle.cert_trim.proofs.walk.Walk.trim_tree.Given as goal

abbrev pub invariant-loop-node : goal.invariant-loop-node
invariant-loop-node l = record {
  same : IsFor l.mill l.self;
  few : AreFew l.node-iterator.rest.items;
  going : (whole : Tree Mark Prices) → RefutingTree l.mill l.limits whole [] → HasRightMarks l.mill l.limits whole [] → l.fn.nodes.items ≡ nodes_of whole → IsGoing l.mill l.limits whole l.self l.node-iterator.rest.items;
}
