use Rattle.std.proofs.Common.{arith}
use Rattle.slab_price.proofs.Groupings.{heads_found}
use Rattle.slab_price.proofs.groups.find_heads.Goals as goal

pub returns : goal.returns
returns c = heads_found c.args.decisions.now.list c.loop-order.heads (λ o h. c.loop-order.invariant o (omega (arith, h, c.loop-order-test.false, c.loop-order.auto.heads)))
