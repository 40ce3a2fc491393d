use Rattle.slab_relax.proofs.Counting.{cause_earlier, no_less_trans}
use Rattle.slab_relax.proofs.relaxing.relax.Goals as goal

pub returns-in-Met-clause-least : goal.returns-in-Met-clause-least
returns-in-Met-clause-least c none = rw c.note-in-Met.ensures (c.in_ok-relaxed-in-Met.ensures.least (λ cause. none (cause_earlier c.args.tally.now c.one_round.new.tally c.least_cover.new.tally (no_less_trans c.args.tally.now c.rounds.tally c.one_round.new.tally c.rounds.invariant.counters c.one_round.ensures.counters) cause)))
