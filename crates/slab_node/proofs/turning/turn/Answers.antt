use Rattle.std.proofs.Common.{sym}
use Rattle.slab_node.proofs.OpenTurns.{are_asks}
use Rattle.slab_node.proofs.turning.turn.Goals as goal

pub returns-in-Some-clause-refuted : goal.returns-in-Some-clause-refuted
returns-in-Some-clause-refuted c = (rw c.in-Some.is at c.in_ok-prices.ensures.some) c.args.decisions.now.list

pub returns-in-Some-clause-turned : goal.returns-in-Some-clause-turned
returns-in-Some-clause-turned c = (rw c.in-Some.is at c.in_ok-prices.ensures.some) c.args.decisions.now.list

pub settle-requires : goal.settle-requires
settle-requires c = record {
  settled = c.in_default-first_open.ensures.none c.args.mill.now (sym c.requires.node.together.orders) (sym c.requires.node.together.yard);
  asks = are_asks c.args.mill.now c.args.decisions.now c.requires.node.together.orders c.requires.node.together.yard c.in_default-first_open.ensures.decisions;
  consistent = c.in_default-first_open.ensures.consistent;
}

pub turn_open-requires-clause-asks : goal.turn_open-requires-clause-asks
turn_open-requires-clause-asks c = are_asks c.args.mill.now c.args.decisions.now c.requires.node.together.orders c.requires.node.together.yard c.first_open.ensures.decisions
