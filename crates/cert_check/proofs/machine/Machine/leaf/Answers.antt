use Rattle.std.proofs.Common.{subst}
use Rattle.mill_model.specs.declared.limits.Limits.{Limits}
use Rattle.cert_rules.specs.Rules.{FirstBroken}
use Rattle.cert_rules.specs.Leaves.{leaf_rules}
use Rattle.cert_check.specs.Readings.{Machine}
use Rattle.cert_check.specs.Seen.{seen}
use Rattle.cert_check.proofs.Goes.{leaf_refused}
use Rattle.cert_check.proofs.machine.Machine.leaf.Goals as goal

pub returns-in-Err-clause-turn : goal.returns-in-Err-clause-turn
returns-in-Err-clause-turn c =
    let old : Machine = seen c.args.self.now in
    leaf_refused old old c.args.rest c.requires.phase c.args.numbers.now c.in-Err.why (subst (λ (x : Limits). FirstBroken (leaf_rules old.mill x old.kept.path c.args.numbers.now) c.in-Err.why) c.limits-limits.ensures.value c.in-Err.ensures.bad)
