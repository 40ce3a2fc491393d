use Rattle.std.proofs.Common.{◌<◌, length, arith, ◌∙◌}
use Rattle.price_check.proofs.Groupings.{renamed_there, left_there}
use Rattle.price_check.proofs.groups.rename.Goals as goal
use Rattle.price_check.proofs.groups.rename.Goals.{then-head-gone, else-head-gone}

pub loop-head-preserved : goal.loop-head-preserved
loop-head-preserved c =
    let inside : c.loop-head.head-index < length c.loop-head.heads = omega (arith, c.loop-head-test.true, c.loop-head.auto.heads) in
    elim c.if-head-gone.branch [
      | then-head-gone w ↦ w.heads-is ∙ renamed_there c.args.gone c.args.kept c.args.heads.now c.loop-head.heads c.loop-head.head-index c.loop-head-test.true inside c.loop-head.invariant w.if-head-gone.true
      | else-head-gone w ↦ w.heads-is ∙ left_there c.args.gone c.args.kept c.args.heads.now c.loop-head.heads c.loop-head.head-index c.loop-head-test.true inside c.loop-head.invariant w.if-head-gone.false
    ]
