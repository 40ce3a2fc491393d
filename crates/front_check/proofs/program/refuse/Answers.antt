use Rattle.std.proofs.Common.{ℕ, List, string_bytes, refl}
use Rattle.slab_desk.specs.Desk.{Told, Files, ChangesLeft}
use Rattle.slab_desk.proofs.Steps.{steps_start}
use Rattle.run_words.specs.Texts.{usage_text}
use Rattle.run_words.proofs.Telling.{always_told}
use Rattle.front_check.specs.Owed.{Exactly}
use Rattle.front_check.proofs.Ends.{ends_owed, ends_memory}
use Rattle.front_check.proofs.program.refuse.Goals as goal

pub returns-in-Ok-clause-ran : goal.returns-in-Ok-clause-ran
returns-in-Ok-clause-ran g c =
    let text : List ℕ = string_bytes c.in-Ok.text in
    ends_owed (λ (files : Files). Exactly 1 (usage_text c.args.usage.word)) 1 c.say.result text _ _ _
    ((λ is. cc), (λ is. cc))
    (always_told (λ (t : Told). Exactly 1 (usage_text c.args.usage.word) 1 text) _ (λ t. (refl, c.in-Ok.ensures)))
    (steps_start ChangesLeft (g.D.Desk.told c.args.desk.now) (λ x. refl))
    (rw c.as_str.ensures.value at c.say.ensures.finishes)

pub returns-in-Err-clause-ran : goal.returns-in-Err-clause-ran
returns-in-Err-clause-ran g c =
    ends_memory (λ (files : Files). Exactly 1 (usage_text c.args.usage.word)) c.say-in-Err.result _ _ _ (steps_start ChangesLeft (g.D.Desk.told c.args.desk.now) (λ x. refl)) c.say-in-Err.ensures.finishes
