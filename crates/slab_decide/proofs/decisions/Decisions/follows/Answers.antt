use Rattle.std.proofs.Common.{ap, subst, true, false}
use Rattle.slab_closure.specs.Relations.{Relations}
use Rattle.slab_decide.specs.Decided.{Decisions}
use Rattle.slab_decide.specs.Kept.{IsKept}
use Rattle.slab_decide.proofs.Kept.{kept_consistent, kept_follows, kept_open, said}
use Rattle.slab_decide.proofs.decisions.Decisions.follows.Goals as goal

pub returns-in-Open-clause-none : goal.returns-in-Open-clause-none
returns-in-Open-clause-none c =
    let r : Relations = c.self.inside.relations in
    let kept : IsKept c.args.self.now r = subst (λ (v : Decisions). IsKept v r) c.self.view_is c.self.invariant.0 in
    kept_open c.args.self.now r kept c.args.ask c.requires (said r _ _ c.args.ask _ _ _ (ap (λ (v : Decisions). v.yard) c.self.view_is) c.nodes-first.ensures.first c.nodes-first.ensures.second c.in-Open.ensures.value)

pub returns-in-Open-clause-consistent : goal.returns-in-Open-clause-consistent
returns-in-Open-clause-consistent c = kept_consistent c.args.self.now c.self.inside.relations (subst (λ (v : Decisions). IsKept v c.self.inside.relations) c.self.view_is c.self.invariant.0)

pub returns-in-Same-clause-some : goal.returns-in-Same-clause-some
returns-in-Same-clause-some c =
    let r : Relations = c.self.inside.relations in
    let kept : IsKept c.args.self.now r = subst (λ (v : Decisions). IsKept v r) c.self.view_is c.self.invariant.0 in
    kept_follows c.args.self.now r kept c.args.ask c.requires true (said r _ _ c.args.ask _ _ _ (ap (λ (v : Decisions). v.yard) c.self.view_is) c.nodes-first.ensures.first c.nodes-first.ensures.second c.in-Same.ensures.value)

pub returns-in-Same-clause-consistent : goal.returns-in-Same-clause-consistent
returns-in-Same-clause-consistent c = kept_consistent c.args.self.now c.self.inside.relations (subst (λ (v : Decisions). IsKept v c.self.inside.relations) c.self.view_is c.self.invariant.0)

pub returns-in-Apart-clause-some : goal.returns-in-Apart-clause-some
returns-in-Apart-clause-some c =
    let r : Relations = c.self.inside.relations in
    let kept : IsKept c.args.self.now r = subst (λ (v : Decisions). IsKept v r) c.self.view_is c.self.invariant.0 in
    kept_follows c.args.self.now r kept c.args.ask c.requires false (said r _ _ c.args.ask _ _ _ (ap (λ (v : Decisions). v.yard) c.self.view_is) c.nodes-first.ensures.first c.nodes-first.ensures.second c.in-Apart.ensures.value)

pub returns-in-Apart-clause-consistent : goal.returns-in-Apart-clause-consistent
returns-in-Apart-clause-consistent c = kept_consistent c.args.self.now c.self.inside.relations (subst (λ (v : Decisions). IsKept v c.self.inside.relations) c.self.view_is c.self.invariant.0)
