use Rattle.price_check.proofs.Apartness.{agrees_at}
use Rattle.price_check.proofs.apart.fill_apart.Goals as goal

pub loop-ask-preserved : goal.loop-ask-preserved
loop-ask-preserved c =
    c.keep_apart.ensures.apart c.args.trail.now.decisions c.requires.heads
    (agrees_at c.args.trail.now.decisions c.decisions-ask-items.result.now c.loop-ask.ask-index _ c.decisions-ask-items.ensures.value c.loop-ask-test.true)
    c.loop-ask.invariant
