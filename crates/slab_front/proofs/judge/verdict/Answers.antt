use Rattle.slab_front.proofs.Owing.{not_places}
use Rattle.slab_front.proofs.judge.verdict.Goals as goal

pub illegal_text-requires : goal.illegal_text-requires
illegal_text-requires c = not_places c.args.mill.now c.args.plan.now c.in-Err.rule c.requires c.in-Err.ensures.first
