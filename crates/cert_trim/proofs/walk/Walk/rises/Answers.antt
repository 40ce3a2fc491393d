use Rattle.std.proofs.Common.{◌≡◌, ◌∷◌, List, refl, sym, ap, subst, ◌∙◌}
use Rattle.mill_model.specs.Decisions.{Decision}
use Rattle.mill_model.specs.Prices.{Refutes}
use Rattle.price_check.specs.Path.{Path}
use Rattle.cert_trim.proofs.Moves.{stops, stops_covered, rises, refuted, not_refuted, path_rest, some_none}
use Rattle.cert_trim.proofs.walk.Walk.rises.Goals as goal

pub returns-in_default-clause-up : goal.returns-in_default-clause-up
returns-in_default-clause-up c whole leads rest right few h = stops c.args.mill.now c.args.limits whole rest c.args.self.now _ leads c.args.prices.now h (λ d path e _. some_none d path (sym c.in_default.ensures.popped.0 ∙ e)) (c.in_default.ensures.popped.1 ∙ sym c.in_default.ensures.popped.0) refl refl refl

pub returns-then-is_err-clause-up : goal.returns-then-is_err-clause-up
returns-then-is_err-clause-up c whole leads rest right few h =
    let before : List Decision = c.pop.new.self.decisions in
    let same : c.put_back.new.path.decisions ≡ (c.in-Some.ask, c.in-Some.answer) ∷ before = ap (λ (p : Path). p.decisions) c.put_back.ensures ∙ ap (λ (p : Path). (c.in-Some.ask, c.in-Some.answer) ∷ p.decisions) c.prices_ok.ensures.path in
    stops c.args.mill.now c.args.limits whole rest c.args.self.now _ leads c.args.prices.now h
    (λ d path e refutes. not_refuted c.args.mill.now c.args.limits before c.args.prices.now c.prices_ok.result (sym c.is_err.ensures.value ∙ c.if-is_err.true) c.prices_ok.ensures.fails
    (subst (λ (ds : List Decision). Refutes c.args.mill.now c.args.limits ds c.args.prices.now) (path_rest d (c.in-Some.ask, c.in-Some.answer) path before (sym e ∙ c.in-Some.ensures.popped)) refutes))
    (same ∙ sym c.in-Some.ensures.popped) refl refl refl

pub returns-clause-up : goal.returns-clause-up
returns-clause-up c whole leads rest right few h =
    let refutes : Refutes c.args.mill.now c.args.limits c.pop.new.self.decisions c.args.prices.now = refuted c.args.mill.now c.args.limits c.pop.new.self.decisions c.args.prices.now c.prices_ok.result (sym c.is_err.ensures.value ∙ c.if-is_err.false) c.prices_ok.ensures.refutes in
    rises c.args.mill.now c.args.limits whole rest c.args.self.now _ leads c.args.prices.now c.in-Some.ask c.in-Some.answer c.pop.new.self.decisions c.last_place-place.result few h c.in-Some.ensures.popped (ap (λ (p : Path). p.decisions) c.prices_ok.ensures.path) refutes c.last_place-place.ensures c.truncate.ensures.items c.with_branch-self.ensures.no c.with_branch-self.ensures.yes

pub returns-then-is_covered-clause-up : goal.returns-then-is_covered-clause-up
returns-then-is_covered-clause-up c whole leads rest right few h = stops_covered c.args.mill.now c.args.limits whole rest c.args.self.now c.args.self.now leads c.args.prices.now right (c.is_covered.ensures c.if-is_covered.true) h
