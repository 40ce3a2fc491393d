use Rattle.std.proofs.Common.{string_bytes, Ok, Err, inl, inr, refl, arith}
use Rattle.front_check.specs.Words.{CheckWords}
use Rattle.front_check.specs.Jobs.{words_of}
use Rattle.front_check.specs.Owed.{OwesOfCheck}
use Rattle.front_check.proofs.Owing.{never_stops}
use Rattle.front_check.proofs.Ends.{ends_owed, ran_parsed, rest_said, rest_unclaimed, rest_parsed}
use Rattle.front_check.proofs.Opening.{opens_nothing, opens_all, opens_some, opens_parsed, never_verdict}
use Rattle.front_check.proofs.program.check_run.Goals as goal

pub returns-in-Ok-answer-clause-ran : goal.returns-in-Ok-answer-clause-ran
returns-in-Ok-answer-clause-ran g c =
    let words : CheckWords = words_of c.in-Ok.job in
    ran_parsed _ words _ _ c.say.result c.in-Ok.ensures.job
    (ends_owed (OwesOfCheck words) c.in-Ok-answer.ending.status c.say.result (string_bytes c.in-Ok-answer.ending.text) _ _ _
    (never_stops (Ok words) c.in-Ok-answer.ending.status (inr c.in-Ok-answer.ensures.status)) c.in-Ok-answer.ensures.ending c.in-Ok-answer.ensures.reads.left
    (rw c.as_str.ensures.value at c.say.ensures.finishes))

pub returns-in-Err-Refused-clause-ran : goal.returns-in-Err-Refused-clause-ran
returns-in-Err-Refused-clause-ran g c =
    let words : CheckWords = words_of c.in-Ok.job in
    let ensured = rw c.in-Err-Refused.field-0-is at c.in-Err-Refused.ensures in
    ran_parsed _ words _ _ c.say-in-Err-Refused.result c.in-Ok.ensures.job
    (ends_owed (OwesOfCheck words) 2 c.say-in-Err-Refused.result (string_bytes c.in-Err-Refused.text) _ _ _
    ((λ is. cc), (λ is. cc)) ensured.reads.stop ensured.reads.left
    (rw c.as_str-in-Err-Refused.ensures.value at c.say-in-Err-Refused.ensures.finishes))

pub returns-in-Ok-answer-clause-rest : goal.returns-in-Ok-answer-clause-rest
returns-in-Ok-answer-clause-rest g c =
    let words : CheckWords = words_of c.in-Ok.job in
    rest_parsed _ words _ _ c.say.result c.in-Ok.ensures.job
    (rest_said words c.in-Ok-answer.ending.status c.say.result (string_bytes c.in-Ok-answer.ending.text) _ _ _
    (never_stops (Ok words) c.in-Ok-answer.ending.status (inr c.in-Ok-answer.ensures.status)).0 c.in-Ok-answer.ensures.rest
    (rw c.as_str.ensures.value at c.say.ensures.finishes))

pub returns-in-Err-Refused-clause-rest : goal.returns-in-Err-Refused-clause-rest
returns-in-Err-Refused-clause-rest g c =
    let words : CheckWords = words_of c.in-Ok.job in
    let ensured = rw c.in-Err-Refused.field-0-is at c.in-Err-Refused.ensures in
    rest_parsed _ words _ _ c.say-in-Err-Refused.result c.in-Ok.ensures.job
    (rest_unclaimed words 2 c.say-in-Err-Refused.result (string_bytes c.in-Err-Refused.text) _ _ _
    (λ is. cc) (λ v. omega (arith, v)) ensured.reads.left
    (rw c.as_str-in-Err-Refused.ensures.value at c.say-in-Err-Refused.ensures.finishes))

pub returns-in-Ok-answer-clause-opens : goal.returns-in-Ok-answer-clause-opens
returns-in-Ok-answer-clause-opens g c =
    let words : CheckWords = words_of c.in-Ok.job in
    opens_parsed _ (Ok words) _ c.say.result _ _ c.in-Ok.ensures.job
    (opens_all words _ c.in-Ok-answer.ending c.say.result _ _ _ c.in-Ok-answer.ensures.named c.say.ensures.named)

pub returns-in-Err-Refused-clause-opens : goal.returns-in-Err-Refused-clause-opens
returns-in-Err-Refused-clause-opens g c =
    let words : CheckWords = words_of c.in-Ok.job in
    opens_parsed _ (Ok words) _ c.say-in-Err-Refused.result _ _ c.in-Ok.ensures.job
    (opens_some words _ c.answer.result c.say-in-Err-Refused.result _ _ _ c.answer.ensures.named c.say-in-Err-Refused.ensures.named
    (never_verdict 2 c.say-in-Err-Refused.result c.say-in-Err-Refused.ensures.finishes.status (inl refl)))

pub returns-in-Err-Memory-clause-opens : goal.returns-in-Err-Memory-clause-opens
returns-in-Err-Memory-clause-opens g c =
    let words : CheckWords = words_of c.in-Ok.job in
    opens_parsed _ (Ok words) _ c.say-in-Err-Memory.result _ _ c.in-Ok.ensures.job
    (opens_some words _ c.answer.result c.say-in-Err-Memory.result _ _ _ c.answer.ensures.named c.say-in-Err-Memory.ensures.named
    (never_verdict 6 c.say-in-Err-Memory.result c.say-in-Err-Memory.ensures.finishes.status (inr refl)))

pub returns-in-Err-Fault-clause-opens : goal.returns-in-Err-Fault-clause-opens
returns-in-Err-Fault-clause-opens g c =
    let words : CheckWords = words_of c.in-Ok.job in
    opens_parsed _ (Ok words) _ 5 _ _ c.in-Ok.ensures.job
    (opens_some words _ c.answer.result 5 _ _ _ c.answer.ensures.named refl (never_verdict 2 5 (inr refl) (inl refl)))

pub returns-in-Err-clause-opens : goal.returns-in-Err-clause-opens
returns-in-Err-clause-opens g c =
    let told = g.D.Desk.told c.args.desk.now in
    opens_parsed _ (Err c.in-Err.usage.word) told c.refuse.result _ _ c.in-Err.ensures.job
    (opens_nothing c.in-Err.usage.word told c.refuse.result _ _ c.refuse.ensures.named)
