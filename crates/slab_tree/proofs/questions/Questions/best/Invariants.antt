use Rattle.std.specs.Prelude.{◌≡◌, ◌⊎◌}
use Rattle.slab_tree.specs.Asking.{IsOpenAskOf}
use Rattle.slab_tree.proofs.questions.Questions.best.Given as goal

abbrev pub invariant-loop-index : goal.invariant-loop-index
invariant-loop-index l = (l.best ≡ l.fn.first) ⊎ IsOpenAskOf l.place.decisions l.best
