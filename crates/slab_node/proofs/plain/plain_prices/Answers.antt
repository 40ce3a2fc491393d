use Rattle.std.proofs.Common.{refl}
use Rattle.slab_node.proofs.PlainlyRefuted.{plain_loss, plain_count, plain_weight}
use Rattle.slab_node.proofs.plain.plain_prices.Goals as goal

pub returns-then-is_below_zero-clause-some : goal.returns-then-is_below_zero-clause-some
returns-then-is_below_zero-clause-some c = λ decisions. rw c.in_ok-bare_prices.ensures (plain_loss c.args.mill.now c.args.limits (c.if-is_below_zero.ensures.0 refl) decisions)

pub returns-then-is_below_zero-2-clause-some : goal.returns-then-is_below_zero-2-clause-some
returns-then-is_below_zero-2-clause-some c = λ decisions. rw c.in_ok-bare_prices-2.ensures (plain_count c.args.mill.now c.args.limits (c.if-is_below_zero-2.ensures.0 refl) decisions)

pub returns-then-is_too_heavy-clause-some : goal.returns-then-is_too_heavy-clause-some
returns-then-is_too_heavy-clause-some c = λ decisions. rw c.in_ok-weight_prices.ensures (plain_weight c.args.mill.now c.args.limits c.sizes-limits.ensures.limits (c.if-is_too_heavy.ensures.0 refl) decisions)
