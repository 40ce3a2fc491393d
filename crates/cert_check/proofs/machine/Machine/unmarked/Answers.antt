use Rattle.std.proofs.Common.{refl}
use Rattle.cert_check.specs.Readings.{Machine}
use Rattle.cert_check.specs.Seen.{seen}
use Rattle.cert_check.proofs.Goes.{stays_in_tree, tree_ask_turns}
use Rattle.cert_check.proofs.machine.Machine.unmarked.Goals as goal

pub returns-clause-turn : goal.returns-clause-turn
returns-clause-turn c =
    let old : Machine = seen c.args.self.now in
    let new : Machine = record old { kept = record old.kept { path = c.ask_line.new.path.decisions }; bad = c.ask_line.new.path.bad } in
    tree_ask_turns old new c.args.rest c.requires.phase c.args.line.now c.requires.version c.requires.other (stays_in_tree old new c.args.rest refl refl c.requires.phase)
    c.ask_line.result c.ask_line.ensures.good c.ask_line.ensures.bad
