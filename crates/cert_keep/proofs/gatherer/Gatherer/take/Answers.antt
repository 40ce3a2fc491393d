use Rattle.std.proofs.Common.{◌∙◌, None, Some, length, take, refl, sym, ap}
use Rattle.mill_model.specs.Mill.{Mill}
use Rattle.cert_keep.specs.Building.{build}
use Rattle.cert_keep.specs.Parts.{gathered}
use Rattle.cert_keep.proofs.Gathering.{as_reader, bad_gathered, taken_gathered, moved_is_line}
use Rattle.cert_keep.proofs.gatherer.Gatherer.take.Goals as goal

pub add-requires : goal.add-requires
add-requires c =
    moved_is_line c.args.self.now.reader.reading.held (take c.take-taken.result c.args.piece.now) c.take-taken.new.self.reading.held c.take-taken.new.self.last c.in-Some.line c.take-taken.new.self.reading.failed
    (sym c.failed.ensures.value ∙ c.if-failed.false) c.take-taken.ensures.moved (sym c.last.ensures.line ∙ c.in-Some.is)

pub returns-then-failed-clause-stands : goal.returns-then-failed-clause-stands
returns-then-failed-clause-stands c = bad_gathered (gathered c.args.self.now) _ _ c.take-taken.ensures.mill c.take-taken.ensures.wanted c.take-taken.ensures.stands (sym c.failed.ensures.value ∙ c.if-failed.true)

pub returns-in-None-clause-stands : goal.returns-in-None-clause-stands
returns-in-None-clause-stands c =
    taken_gathered (gathered c.args.self.now) _ _ c.take-taken.ensures.mill c.take-taken.ensures.wanted c.take-taken.ensures.stands _ None
    (sym c.failed.ensures.value ∙ c.if-failed.false) c.take-taken.ensures.moved (sym c.last.ensures.line ∙ c.in-None.is) c.requires.running refl

pub returns-in-None-clause-room : goal.returns-in-None-clause-room
returns-in-None-clause-room c = λ bytes h. c.take-taken.ensures.room bytes (as_reader _ (gathered c.args.self.now) bytes h)

pub returns-in-Ok-clause-stands : goal.returns-in-Ok-clause-stands
returns-in-Ok-clause-stands c =
    taken_gathered (gathered c.args.self.now) _ _ c.take-taken.ensures.mill c.take-taken.ensures.wanted c.take-taken.ensures.stands _ (Some c.in-Some.line)
    (sym c.failed.ensures.value ∙ c.if-failed.false) c.take-taken.ensures.moved (sym c.last.ensures.line ∙ c.in-Some.is) c.requires.running
    (c.in-Ok.ensures ∙ ap (λ n. build n c.args.self.now.built c.in-Some.line) (c.orders-orders.ensures ∙ ap (λ (m : Mill). length m.orders) c.take-taken.ensures.mill))

pub returns-in-Ok-clause-room : goal.returns-in-Ok-clause-room
returns-in-Ok-clause-room c = λ bytes h. c.take-taken.ensures.room bytes (as_reader _ (gathered c.args.self.now) bytes h)
