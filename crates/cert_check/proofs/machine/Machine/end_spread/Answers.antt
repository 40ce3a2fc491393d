use Rattle.std.proofs.Common.{◌≡◌, true, refl, sym, subst, ◌∙◌, unsigned_abs, List}
use Rattle.mill_model.specs.declared.limits.Limits.{Limits}
use Rattle.mill_model.specs.Shares.{Share}
use Rattle.cert_rules.specs.Rules.{AllKept, FirstBroken}
use Rattle.cert_rules.specs.States.{tree_limits}
use Rattle.cert_rules.specs.Spreads.{cover_rules}
use Rattle.cert_slabs.specs.Tallies.{IsTally}
use Rattle.cert_check.specs.declared.phase.Phase.TheVariants as phases
use Rattle.cert_check.specs.Lines.{is_ask}
use Rattle.cert_check.specs.Readings.{Machine}
use Rattle.cert_check.specs.Seen.{seen}
use Rattle.cert_check.proofs.States.{goal_of}
use Rattle.cert_check.proofs.Goes.{cover_refused, covered_refused, covered_goes, stays_in_tree}
use Rattle.cert_check.proofs.machine.Machine.end_spread.Goals as goal

pub returns-in-Err-clause-turn : goal.returns-in-Err-clause-turn
returns-in-Err-clause-turn c =
    let old : Machine = seen c.args.self.now in
    let begun : old.kept.tally.begun ≡ true = sym c.has_begun.ensures ∙ c.if-not-has_begun.false in
    let asks : is_ask c.args.line.now ≡ true = sym c.is_ask.ensures ∙ c.if-not-is_ask.false in
    let limits : tree_limits (goal_of old.kept c.args.rest) ≡ c.limits-limits.result = sym c.limits-limits.ensures.value in
    cover_refused old old c.args.rest c.requires.phase c.args.line.now c.requires.other begun asks c.in-Err.why (λ shares t.
    subst (λ (x : Limits). FirstBroken (cover_rules old.mill x (unsigned_abs old.kept.tally.d) shares) c.in-Err.why) (sym limits) (c.in-Err.ensures.rules old.mill shares c.args.self.now.fitted.covered t))

pub returns-in-Err-ask_line-clause-turn : goal.returns-in-Err-ask_line-clause-turn
returns-in-Err-ask_line-clause-turn c =
    let old : Machine = seen c.args.self.now in
    let begun : old.kept.tally.begun ≡ true = sym c.has_begun.ensures ∙ c.if-not-has_begun.false in
    let asks : is_ask c.args.line.now ≡ true = sym c.is_ask.ensures ∙ c.if-not-is_ask.false in
    let limits : tree_limits (goal_of old.kept c.args.rest) ≡ c.limits-limits.result = sym c.limits-limits.ensures.value in
    let covers : (shares : List Share) → IsTally old.mill old.kept.tally.d shares old.kept.tally → AllKept (cover_rules old.mill (tree_limits (goal_of old.kept c.args.rest)) (unsigned_abs old.kept.tally.d) shares) = λ shares t. subst (λ (x : Limits). AllKept (cover_rules old.mill x (unsigned_abs old.kept.tally.d) shares)) (sym limits) (c.in-Ok.ensures.rules old.mill shares c.args.self.now.fitted.covered t) in
    covered_refused old old c.args.rest c.requires.phase c.args.line.now c.requires.other begun asks covers c.in-Err-ask_line.why c.in-Err-ask_line.ensures.bad

pub returns-in-Ok-ask_line-clause-turn : goal.returns-in-Ok-ask_line-clause-turn
returns-in-Ok-ask_line-clause-turn c =
    let old : Machine = seen c.args.self.now in
    let begun : old.kept.tally.begun ≡ true = sym c.has_begun.ensures ∙ c.if-not-has_begun.false in
    let asks : is_ask c.args.line.now ≡ true = sym c.is_ask.ensures ∙ c.if-not-is_ask.false in
    let limits : tree_limits (goal_of old.kept c.args.rest) ≡ c.limits-limits.result = sym c.limits-limits.ensures.value in
    let covers : (shares : List Share) → IsTally old.mill old.kept.tally.d shares old.kept.tally → AllKept (cover_rules old.mill (tree_limits (goal_of old.kept c.args.rest)) (unsigned_abs old.kept.tally.d) shares) = λ shares t. subst (λ (x : Limits). AllKept (cover_rules old.mill x (unsigned_abs old.kept.tally.d) shares)) (sym limits) (c.in-Ok.ensures.rules old.mill shares c.args.self.now.fitted.covered t) in
    let new : Machine = record old { kept = record old.kept { phase = phases.Tree c.args.rest; path = c.ask_line.new.path.decisions } } in
    covered_goes old new c.args.rest c.requires.phase c.args.line.now c.requires.other begun asks covers c.in-Ok-ask_line.ensures.good (stays_in_tree old new c.args.rest refl refl refl)
