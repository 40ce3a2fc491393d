use Rattle.std.proofs.Common.{arith}
use Rattle.price_check.proofs.Groupings.{heads_joined}
use Rattle.price_check.proofs.groups.join_pair.Goals as goal

pub returns : goal.returns
returns c decisions are =
    heads_joined decisions c.args.heads.now c.rename.new.heads c.args.i c.args.j c.from-i.result c.from-j.result c.max.result c.min.result c.from-i.ensures c.from-j.ensures (omega (arith, c.if-i-heads.false)) (omega (arith, c.if-j-heads.false))
    c.max.ensures c.min.ensures c.rename.ensures are
