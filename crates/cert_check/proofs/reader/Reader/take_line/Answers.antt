use Rattle.std.proofs.Common.{◌∙◌, Some, ap, subst, sym}
use Rattle.cert_view.specs.Held.{IsPart}
use Rattle.cert_check.specs.declared.failure.Failure.{Failure}
use Rattle.cert_check.specs.Held.{Reader}
use Rattle.cert_check.specs.Seen.{seen}
use Rattle.cert_check.proofs.Taking.{part_let_go, part_has_taken, line_has_taken, bad_has_taken, part_has_moved, line_has_moved, room_of}
use Rattle.cert_check.proofs.reader.Reader.take_line.Goals.{in-Some-self+in-Column-1, in-Some-self+in-Extra-1, in-None-1}
use Rattle.cert_check.proofs.reader.Reader.take_line.Goals as goal

pub feed-taken-requires : goal.feed-taken-requires
feed-taken-requires c =
    subst IsPart (sym c.let_go.ensures) (part_let_go c.self.inside.taken c.self.inside.held (c.self.invariant.part (ap (λ (v : Reader). v.reading.failed) c.self.view_is ∙ c.requires.running)))

pub returns-in-None-clause-stands : goal.returns-in-None-clause-stands
returns-in-None-clause-stands c = (part_has_taken _ _ _ c.self.inside.taken c.self.inside.held _ _ _ c.self.view_is c.requires.running c.requires.open _ _ _ c.let_go.ensures c.feed-taken.ensures.held c.in-None.ensures.step).stands

pub returns-in-None-clause-room : goal.returns-in-None-clause-room
returns-in-None-clause-room c = room_of _ _ _ _ c.feed-taken.ensures.within (part_has_taken _ _ _ c.self.inside.taken c.self.inside.held _ _ _ c.self.view_is c.requires.running c.requires.open _ _ _ c.let_go.ensures c.feed-taken.ensures.held c.in-None.ensures.step)

pub returns-in-None-clause-moved : goal.returns-in-None-clause-moved
returns-in-None-clause-moved c = λ _. part_has_moved (seen c.self.inside.machine) (seen c.read_line.new.machine) _ c.self.inside.taken c.self.inside.held _ _ _ c.self.view_is c.requires.running c.requires.open _ _ _ c.let_go.ensures c.feed-taken.ensures.held

pub returns-in-Some-Ok-clause-stands : goal.returns-in-Some-Ok-clause-stands
returns-in-Some-Ok-clause-stands c = (line_has_taken _ _ _ c.self.inside.taken c.self.inside.held _ _ _ c.self.view_is c.requires.running c.requires.open _ _ _ c.let_go.ensures c.feed-taken.ensures.held c.in-Some-Ok.field-0 c.in-Some-Ok.field-0-0 _ c.in-Some-Ok.field-0-is c.in-Some-Ok.ensures.step c.read_line.ensures.same c.saturating_add-self-inside.ensures).stands

pub returns-in-Some-Ok-clause-room : goal.returns-in-Some-Ok-clause-room
returns-in-Some-Ok-clause-room c = room_of _ _ _ _ c.feed-taken.ensures.within (line_has_taken _ _ _ c.self.inside.taken c.self.inside.held _ _ _ c.self.view_is c.requires.running c.requires.open _ _ _ c.let_go.ensures c.feed-taken.ensures.held c.in-Some-Ok.field-0 c.in-Some-Ok.field-0-0 _ c.in-Some-Ok.field-0-is c.in-Some-Ok.ensures.step c.read_line.ensures.same c.saturating_add-self-inside.ensures)

pub returns-in-Some-Ok-clause-moved : goal.returns-in-Some-Ok-clause-moved
returns-in-Some-Ok-clause-moved c = λ _. line_has_moved _ _ _ c.self.inside.taken c.self.inside.held _ _ _ c.self.view_is c.requires.running c.requires.open _ _ _ c.let_go.ensures c.feed-taken.ensures.held c.in-Some-Ok.field-0 c.in-Some-Ok.field-0-0 c.in-Some-Ok.field-0-is c.in-Some-Ok.ensures.step

pub returns-in-Some-Err-clause-stands : goal.returns-in-Some-Err-clause-stands
returns-in-Some-Err-clause-stands c = let fails = ap (λ (f : Failure). Some f) c.failure_after.ensures in (bad_has_taken _ _ _ c.self.inside.taken c.self.inside.held _ _ _ c.self.view_is c.requires.running c.requires.open _ _ _ c.let_go.ensures c.feed-taken.ensures.held c.in-Some-Err.field-0 c.in-Some-Err.why (c.with_column-why.result) c.match-self.self.reading c.in-Some-Err.field-0-is c.in-Some-Err.ensures.step c.read_line.ensures.same
    c.with_column-why.ensures.why c.with_column-why.ensures.column
    (elim c.match-self.branch [ in-Some-self+in-Column-1 w ↦ ap (λ (v : Reader). v.reading.mill) w.self-is | in-Some-self+in-Extra-1 w ↦ ap (λ (v : Reader). v.reading.mill) w.self-is | in-None-1 w ↦ ap (λ (v : Reader). v.reading.mill) w.self-is ])
    (elim c.match-self.branch [ in-Some-self+in-Column-1 w ↦ ap (λ (v : Reader). v.reading.wanted) w.self-is | in-Some-self+in-Extra-1 w ↦ ap (λ (v : Reader). v.reading.wanted) w.self-is | in-None-1 w ↦ ap (λ (v : Reader). v.reading.wanted) w.self-is ])
    (elim c.match-self.branch [ in-Some-self+in-Column-1 w ↦ ap (λ (v : Reader). v.reading.failed) w.self-is ∙ fails | in-Some-self+in-Extra-1 w ↦ ap (λ (v : Reader). v.reading.failed) w.self-is ∙ fails | in-None-1 w ↦ ap (λ (v : Reader). v.reading.failed) w.self-is ∙ fails ])).stands
