use Rattle.std.proofs.Common.{Contains, refl, sym, subst}
use Rattle.std.proofs.lemmas.Bool.{true≢false, both_ways}
use Rattle.price_check.specs.Path.{Path, asks_of}
use Rattle.price_check.proofs.path.Path.push.Goals as goal

pub returns-clause-stands : goal.returns-clause-stands
returns-clause-stands c = (
  λ e. absurd (true≢false e),
  λ found. absurd (both_ways c.stands.result c.if-stands.false (c.stands.ensures.stands.1 (subst (λ (p : Path). Contains (asks_of p.decisions) c.args.ask) (sym c.self.view_is) found))),
)

pub returns-then-stands-clause-stands : goal.returns-then-stands-clause-stands
returns-then-stands-clause-stands c = (
  λ e. subst (λ (p : Path). Contains (asks_of p.decisions) c.args.ask) c.self.view_is (c.stands.ensures.stands.0 c.if-stands.true),
  λ found. refl,
)
