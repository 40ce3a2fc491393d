use Rattle.std.proofs.Common.{string_bytes, Ok, Err, inl, inr, refl}
use Rattle.slab_relax.specs.declared.tally.Tally.{Tally}
use Rattle.slab_front.specs.Words.{Command}
use Rattle.slab_front.specs.Jobs.{command_of}
use Rattle.slab_front.specs.Outcomes.{saying}
use Rattle.slab_front.specs.Owed.{OwesOfCommand}
use Rattle.slab_front.specs.Endings.{status_for, outcome_for}
use Rattle.slab_front.proofs.Opening.{asked_parsed, asks_given, asks_stopped, asks_nothing}
use Rattle.slab_front.proofs.Owing.{never_stops}
use Rattle.slab_front.proofs.Ends.{ends_owed, ran_parsed}
use Rattle.slab_front.proofs.program.run.Goals as goal

pub returns-in-Ok-answer-clause-ran : goal.returns-in-Ok-answer-clause-ran
returns-in-Ok-answer-clause-ran g c =
    let command : Command = command_of c.in-Ok.job in
    let was : Tally = c.args.tally.now in
    let is : Tally = c.answer.new.tally in
    ran_parsed _ command was is _ _ c.give.result c.in-Ok.ensures.job
    (ends_owed (OwesOfCommand command was is) (status_for c.in-Ok-answer.answer) c.give.result (outcome_for c.in-Ok-answer.answer) _ _ _
    (never_stops (Ok command) (status_for c.in-Ok-answer.answer) c.in-Ok-answer.ensures.status) c.in-Ok-answer.ensures.answer c.in-Ok-answer.ensures.reads.left
    c.give.ensures.finishes)

pub returns-in-Err-Refused-clause-ran : goal.returns-in-Err-Refused-clause-ran
returns-in-Err-Refused-clause-ran g c =
    let command : Command = command_of c.in-Ok.job in
    let was : Tally = c.args.tally.now in
    let is : Tally = c.answer.new.tally in
    let ensured = rw c.in-Err-Refused.field-0-is at c.in-Err-Refused.ensures in
    ran_parsed _ command was is _ _ c.say.result c.in-Ok.ensures.job
    (ends_owed (OwesOfCommand command was is) 2 c.say.result (saying (string_bytes c.in-Err-Refused.text)) _ _ _
    ((λ is. cc), (λ is. cc)) ensured.reads.stop ensured.reads.left
    (rw c.as_str.ensures.value at c.say.ensures.finishes))

pub returns-in-Ok-answer-clause-opens : goal.returns-in-Ok-answer-clause-opens
returns-in-Ok-answer-clause-opens g c =
    let command : Command = command_of c.in-Ok.job in
    asked_parsed _ (Ok command) _ c.give.result _ _ c.in-Ok.ensures.job
    (asks_given command (g.D.Desk.told c.args.desk.now) c.in-Ok-answer.answer c.give.result _ _ _ c.in-Ok-answer.ensures.named c.give.ensures.named c.give.ensures.finishes.status)

pub returns-in-Err-Refused-clause-opens : goal.returns-in-Err-Refused-clause-opens
returns-in-Err-Refused-clause-opens g c =
    let command : Command = command_of c.in-Ok.job in
    asked_parsed _ (Ok command) _ c.say.result _ _ c.in-Ok.ensures.job (asks_stopped command _ c.answer.result 2 c.say.result _ _ _ c.answer.ensures.named c.say.ensures.named c.say.ensures.finishes.status (inl refl))

pub returns-in-Err-Memory-clause-opens : goal.returns-in-Err-Memory-clause-opens
returns-in-Err-Memory-clause-opens g c =
    let command : Command = command_of c.in-Ok.job in
    asked_parsed _ (Ok command) _ c.say-in-Err-Memory.result _ _ c.in-Ok.ensures.job (asks_stopped command _ c.answer.result 6 c.say-in-Err-Memory.result _ _ _ c.answer.ensures.named c.say-in-Err-Memory.ensures.named c.say-in-Err-Memory.ensures.finishes.status (inr (inr refl)))

pub returns-in-Err-Fault-clause-opens : goal.returns-in-Err-Fault-clause-opens
returns-in-Err-Fault-clause-opens g c =
    let command : Command = command_of c.in-Ok.job in
    asked_parsed _ (Ok command) _ 5 _ _ c.in-Ok.ensures.job (asks_stopped command _ c.answer.result 5 5 _ _ _ c.answer.ensures.named refl (inl refl) (inr (inl refl)))

pub returns-in-Err-clause-opens : goal.returns-in-Err-clause-opens
returns-in-Err-clause-opens g c =
    asked_parsed _ (Err c.in-Err.usage.word) _ c.refuse.result _ _ c.in-Err.ensures.job (asks_nothing c.in-Err.usage.word _ c.refuse.result _ _ c.refuse.ensures.named)
