use Rattle.std.proofs.Common.{ℕ, List, reverse, subst, Option, Some, None}
use Rattle.std.specs.Prelude.{IfSome, IfNone}
use Rattle.mill_model.specs.declared.ask.Ask.{Ask}
use Rattle.mill_model.specs.Decisions.{Decision}
use Rattle.slab_decide.specs.Decided.{Decisions, IsFirstOpen, AreSettledFor}
use Rattle.slab_decide.specs.Kept.{IsKept}
use Rattle.slab_decide.proofs.Kept.{kept_consistent}
use Rattle.slab_decide.proofs.FirstOpen.{first_pair, first_put, all_settled}
use Rattle.slab_decide.proofs.decisions.Decisions.first_open.Goals as goal

abbrev seen : ℕ → ℕ → List Decision → Decisions
seen orders yard items = record { orders = orders; yard = yard; list = reverse items }

some_weaker : (o : Option Ask) (P Q : Ask → Type 0) → ((x : Ask) → P x → Q x) → IfSome o P → IfSome o Q
some_weaker (Some x) P Q f h = f x h
some_weaker None P Q f h = tt

none_weaker : (o : Option Ask) (P Q : Type 0) → (P → Q) → IfNone o P → IfNone o Q
none_weaker (Some x) P Q f h = tt
none_weaker None P Q f h = f h

pub returns-in-Some-clause-some : goal.returns-in-Some-clause-some
returns-in-Some-clause-some c =
    subst (λ (v : Decisions). IsFirstOpen v c.in-Some.ask) c.self.view_is
    (first_pair (seen c.self.inside.orders c.self.inside.yard c.self.inside.list.items) c.self.inside.relations c.self.invariant.0 c.in-Some.ask c.in-Some.ensures.some)

pub returns-clause-some : goal.returns-clause-some
returns-clause-some c =
    subst (λ (v : Decisions). IfSome c.first_open_put.result (IsFirstOpen v)) c.self.view_is
    (some_weaker c.first_open_put.result _ _ (λ ask h. first_put (seen c.self.inside.orders c.self.inside.yard c.self.inside.list.items) c.self.inside.relations c.self.invariant.0 ask c.in_default.ensures.none h) c.first_open_put.ensures.some)

pub returns-clause-none : goal.returns-clause-none
returns-clause-none c =
    subst (λ (v : Decisions). IfNone c.first_open_put.result (AreSettledFor v)) c.self.view_is
    (none_weaker c.first_open_put.result _ _ (λ h. all_settled (seen c.self.inside.orders c.self.inside.yard c.self.inside.list.items) c.self.inside.relations c.self.invariant.0 c.in_default.ensures.none h) c.first_open_put.ensures.none)

pub returns-in-Some-clause-consistent : goal.returns-in-Some-clause-consistent
returns-in-Some-clause-consistent c = kept_consistent c.args.self.now c.self.inside.relations (subst (λ (v : Decisions). IsKept v c.self.inside.relations) c.self.view_is c.self.invariant.0)

pub returns-clause-consistent : goal.returns-clause-consistent
returns-clause-consistent c = kept_consistent c.args.self.now c.self.inside.relations (subst (λ (v : Decisions). IsKept v c.self.inside.relations) c.self.view_is c.self.invariant.0)
