use Rattle.std.proofs.lemmas.Result.{IfOk-weaker}
use Rattle.slab_tree.specs.Searches.{limits_of, opening_of}
use Rattle.slab_sweep.specs.Made.{IsMade}
use Rattle.slab_sweep.proofs.Questions.{made_of}
use Rattle.slab_sweep.proofs.question.tightened.Goals as goal

pub returns-clause-made : goal.returns-clause-made
returns-clause-made c =
    IfOk-weaker c.steps.result _ (IsMade c.args.mill.now (opening_of c.args.tree) (limits_of c.args.tree))
    (λ s shows. made_of c.args.mill.now c.args.tree c.in_ok-tight.tight s c.requires.tree c.in_ok-tight.ensures.tree (λ limits. shows c.args.mill.now limits))
    c.steps.ensures.tight
