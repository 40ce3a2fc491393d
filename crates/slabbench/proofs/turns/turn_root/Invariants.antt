use Rattle.std.proofs.Common.{◌≡◌}
use Rattle.mill_model.specs.Plain.{IsPlainlyRefuted}
use Rattle.slabbench.specs.declared.turns.Answer.TheVariants.{Refuted}
use Rattle.slabbench.proofs.turns.turn_root.Given as goal

abbrev pub invariant-again : goal.invariant-again
invariant-again l = IsPlainlyRefuted l.mill l.limits → l.done.answer ≡ Refuted
