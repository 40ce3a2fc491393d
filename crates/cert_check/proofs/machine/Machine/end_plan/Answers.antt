use Rattle.std.proofs.Common.{◌≡◌, Some, false, refl, ap, subst, ◌∙◌}
use Rattle.mill_model.specs.declared.sums.Sums.{Sums}
use Rattle.cert_rules.specs.Rules.{AllKept}
use Rattle.cert_rules.specs.States.{latest}
use Rattle.cert_rules.specs.Slabs.{plan_rules}
use Rattle.cert_check.specs.declared.phase.Phase.TheVariants as phases
use Rattle.cert_check.specs.Readings.{Machine}
use Rattle.cert_check.specs.Seen.{seen}
use Rattle.cert_check.proofs.Goes.{plan_turned}
use Rattle.cert_check.proofs.machine.Machine.end_plan.Goals as goal

pub returns-in-Ok-clause-turn : goal.returns-in-Ok-clause-turn
returns-in-Ok-clause-turn c =
    let old : Machine = seen c.args.self.now in
    let mid : Machine = record old { kept = record old.kept { phase = phases.Tree false } } in
    plan_turned old mid (seen c.in_tree.new.self) c.args.line.now c.requires.phase c.requires.other refl refl refl refl refl refl
    (λ before sums slabs e is.
    let latest_is : Some c.in-Some.sums ≡ Some sums = c.in-Some.ensures ∙ ap latest e in
    let same : c.in-Some.sums ≡ sums = cc in
    subst (λ (s : Sums). AllKept (plan_rules old.mill s slabs)) same (c.in-Ok.ensures.rules slabs is))
    c.in_tree.result c.in_tree.ensures.turn
