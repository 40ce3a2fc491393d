use Rattle.std.proofs.Common.{ap, sym, ◌∙◌}
use Rattle.mill_model.specs.declared.steps.Step.TheVariants.{Leaf}
use Rattle.tree_nodes.specs.Nodes.{step_of_node}
use Rattle.tree_nodes.proofs.StepLists.{one_step_more, no_mark_more, one_mark_more}
use Rattle.tree_nodes.proofs.steps.parts.Goals as goal

pub loop-node-preserved-in-Continue-1 : goal.loop-node-preserved-in-Continue-1
loop-node-preserved-in-Continue-1 c = record {
  steps = one_step_more c.loop-node.steps.items c.push.new.self.items c.loop-node.yielded c.in-Some.node (Leaf c.in-Closed.prices) c.loop-node.invariant.steps (sym (ap step_of_node c.in-Closed.is)) c.in_ok-push-in-Closed.ensures.items;
  marks = no_mark_more c.loop-node.marks.items c.loop-node.yielded c.in-Some.node c.in-Closed.prices c.loop-node.invariant.marks c.in-Closed.is;
}

pub loop-node-preserved : goal.loop-node-preserved
loop-node-preserved c = record {
  steps = one_step_more c.loop-node.steps.items c.push-in-Branched.new.self.items c.loop-node.yielded c.in-Some.node c.step_of.result c.loop-node.invariant.steps (c.step_of.ensures ∙ sym (ap step_of_node c.in-Branched.is)) c.in_ok-push-in-Branched.ensures.items;
  marks = one_mark_more c.loop-node.marks.items c.push-in-Branched-2.new.self.items c.loop-node.yielded c.in-Some.node c.in-Branched.ask c.in-Branched.mark c.loop-node.invariant.marks c.in-Branched.is c.in_ok-push-in-Branched-2.ensures.items;
}
