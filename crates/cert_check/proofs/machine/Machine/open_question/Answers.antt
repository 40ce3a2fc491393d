use Rattle.std.proofs.Common.{refl}
use Rattle.cert_check.specs.Readings.{Machine}
use Rattle.cert_check.specs.Seen.{seen}
use Rattle.cert_check.proofs.Goes.{open_ask_turns}
use Rattle.cert_check.proofs.machine.Machine.open_question.Goals as goal

pub returns-clause-turn : goal.returns-clause-turn
returns-clause-turn c =
    let old : Machine = seen c.args.self.now in
    let new : Machine = record old { kept = record old.kept { path = c.ask_line.new.path.decisions }; bad = c.ask_line.new.path.bad } in
    open_ask_turns old new c.requires.phase c.args.line.now c.requires.other refl refl
    c.ask_line.result c.ask_line.ensures.good c.ask_line.ensures.bad
