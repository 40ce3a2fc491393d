use Rattle.std.proofs.Common.{subst}
use Rattle.slab_node.specs.Turns.{IsTurn}
use Rattle.slab_node.specs.declared.turned.Turned.{Turned}
use Rattle.mill_model.specs.Prices.{Refutes}
use Rattle.slab_tree.proofs.BoundedTurns.{turn_greater, refuted_or_not, spread_greater}
use Rattle.slab_tree.proofs.Limits.{refutes_greater, plain_smaller}
use Rattle.slab_relax.proofs.Counting.{no_less_trans}
use Rattle.slab_tree.proofs.bounding.bounded_turn.Goals as goal

pub returns-in-None-clause-turned : goal.returns-in-None-clause-turned
returns-in-None-clause-turned c =
    let refutes : Refutes c.args.place.now.mill.now c.smaller_limits-smaller.result c.args.place.now.decisions.list c.in-Refuted.prices =
    subst (λ (t : Turned). IsTurn c.args.place.now.mill.now c.smaller_limits-smaller.result c.args.place.now.decisions.list c.loop.tally c.turn.new.tally t) c.in-Refuted.is c.in_ok-turned.ensures.turned in
    refutes_greater c.args.place.now.mill.now c.smaller_limits-smaller.result c.args.limits c.args.place.now.decisions.list c.in-Refuted.prices refutes c.in-None.ensures

pub returns-in_default : goal.returns-in_default
returns-in_default c = record {
  turned = turn_greater c.args.place.now.mill.now c.smaller_limits-smaller.result c.args.limits c.args.place.now.decisions.list c.args.tally.now c.loop.tally c.turn.new.tally c.in_ok-turned.turned c.smaller_limits-smaller.ensures.smaller c.loop.invariant.counters c.in_default.not-Refuted c.in_ok-turned.ensures.turned;
  plain = λ refuted. absurd (refuted_or_not c.in_ok-turned.turned c.in_default.not-Refuted (c.in_ok-turned.ensures.plain (plain_smaller c.args.place.now.mill.now c.smaller_limits-smaller.result c.args.limits c.smaller_limits-smaller.ensures.smaller refuted)));
  cover = spread_greater c.args.place.now.mill.now c.smaller_limits-smaller.result c.args.limits c.args.place.now.decisions.list c.turn.new.pool.columns c.in_ok-turned.turned c.smaller_limits-smaller.ensures.smaller c.in_ok-turned.ensures.cover;
  counters = no_less_trans c.args.tally.now c.loop.tally c.turn.new.tally c.loop.invariant.counters c.in_ok-turned.ensures.counters;
  mill = c.in_ok-turned.ensures.mill;
}
