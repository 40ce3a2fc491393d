use Rattle.std.proofs.Common.{◌≡◌, ℕ, ◌+◌, ◌^◌, ◌<◌, Bool, true, false, List, refl, sym, ap, subst, ◌∙◌, arith, cond}
use Rattle.std.specs.Prelude.{IfOk, IfSome, OnErr, Option, Some, Result, Ok, Err}
use Rattle.mill_model.specs.Mill.{Mill}
use Rattle.mill_model.specs.Plans.{Plan, sums_of}
use Rattle.slab_repack.specs.FoundPlans.{IsFoundPlan}
use Rattle.std.specs.declared.alloc.AllocError.{AllocError}
use Rattle.std.proofs.lemmas.Result.{IfOk-weaker}
use Rattle.mill_model.specs.declared.ask.Ask.{Ask}
use Rattle.mill_model.specs.declared.mark.Mark.{Mark}
use Rattle.slab_node.specs.Turns.{IsOpenAsk}
use Rattle.slab_tree.specs.declared.tree.Phase.{Phase}
use Rattle.slab_tree.specs.declared.tree.Phase.TheVariants.{Running, Refused}
use Rattle.slab_tree.specs.Marking.{HoldsCover, is_bare}
use Rattle.slab_tree.specs.Searches.{Search, limits_of, loss_below, bare_count, HasBareEnd}
use Rattle.slab_tree.specs.Stepping.{IsSplitUnder, IsStepped}
use Rattle.slab_tree.proofs.Gains.{branched_bares, same_counts, split_counts}
use Rattle.slab_tree.proofs.Moves.{split_step, lower_step}
use Rattle.slab_tree.proofs.Standing.{chosen_open}
use Rattle.slab_tree.proofs.tree.Tree.split_next.Goals as goal

-- ---- a plan was found

pub returns-in-Some-clause-ok : goal.returns-in-Some-clause-ok
returns-in-Some-clause-ok c =
    let found : IsFoundPlan c.args.place.now.mill.now (limits_of c.args.self.now) c.in-Some.plan = subst (λ (p : Option Plan). IfSome p (IsFoundPlan c.args.place.now.mill.now (limits_of c.args.self.now))) c.in-Some.is c.in_ok-plan.ensures.found in
    let small : (sums_of c.args.place.now.mill.now c.in-Some.plan).loss < 2 ^ 32 = subst (λ (m : Mill). (sums_of m c.in-Some.plan).loss < 2 ^ 32) c.in_ok-plan.ensures.mill c.lower.ensures.small in
    let lowered : c.lower.new.self ≡ record c.args.self.now { loss = loss_below c.args.place.now.mill.now c.in-Some.plan; best = Some c.in-Some.plan } = subst (λ (m : Mill). c.lower.new.self ≡ record c.args.self.now { loss = loss_below m c.in-Some.plan; best = Some c.in-Some.plan }) c.in_ok-plan.ensures.mill c.lower.ensures.tree in
    lower_step c.args.place.now.mill.now c.args.nodes.now.limit c.args.self.now c.lower.new.self c.requires.tree c.requires.room c.in-Some.plan found small lowered

-- ---- the split

pub returns-in-None-clause-ok : goal.returns-in-None-clause-ok
returns-in-None-clause-ok c =
    let asks : IsOpenAsk c.args.place.now.mill.now c.args.self.now.path c.in_ok-ask.ask =
    chosen_open c.args.place.now.mill.now c.args.place.now.decisions c.args.self.now.path c.args.first c.in_ok-ask.ask c.args.place.now.extent.orders c.args.place.now.extent.yard c.requires.place.list c.requires.first c.in_ok-ask.ensures in
    let holds : HoldsCover c.args.place.now.mill.now (limits_of c.args.self.now) c.in_ok-mark.mark c.args.self.now.path = c.in_ok-mark.ensures.holds c.args.place.now.mill.now (limits_of c.args.self.now) c.args.self.now.path c.requires.cover in
    IfOk-weaker c.go_down.result (IsSplitUnder c.in_ok-ask.ask c.in_ok-mark.mark c.args.nodes.now.limit c.args.self.now c.go_down.new.self) (IsStepped c.args.place.now.mill.now c.args.nodes.now.limit c.args.self.now c.go_down.new.self)
    (split_step c.args.place.now.mill.now c.args.nodes.now.limit c.args.self.now c.go_down.new.self c.requires.tree c.requires.room c.in_ok-ask.ask c.in_ok-mark.mark asks holds) c.go_down.ensures.ok

-- a split that isn't bare adds no bare one
no_more_bares : (old new : Search) (ask : Ask) (mark : Mark) (limit : ℕ) (r : Result Bool AllocError) → is_bare mark ≡ false → IfOk r (IsSplitUnder ask mark limit old new) → OnErr r (new ≡ old) → bare_count new.nodes ≡ bare_count old.nodes
no_more_bares old new ask mark limit (Err e) covered h same = ap (λ (t : Search). bare_count t.nodes) same
no_more_bares old new ask mark limit (Ok false) covered h same = ap (λ (t : Search). bare_count t.nodes) h.1
no_more_bares old new ask mark limit (Ok true) covered h same =
    branched_bares ask mark limit old new h ∙ ap (λ (b : Bool). bare_count old.nodes + cond b 1 0) covered ∙ none (bare_count old.nodes)
  where
    none : (n : ℕ) → n + 0 ≡ n
    none n = omega arith

pub returns-in-None-clause-bares : goal.returns-in-None-clause-bares
returns-in-None-clause-bares c = no_more_bares c.args.self.now c.go_down.new.self c.in_ok-ask.ask c.in_ok-mark.mark c.args.nodes.now.limit c.go_down.result c.in_ok-mark.ensures.covered c.go_down.ensures.ok c.go_down.ensures.err

pub returns-in-None-clause-counts : goal.returns-in-None-clause-counts
returns-in-None-clause-counts c =
    split_counts c.args.nodes.now c.opened-counted.ensures.last c.opened-counted.ensures.bare c.args.self.now c.go_down.new.self c.go_down.result c.go_down.new.nodes c.in_ok-ask.ask c.in_ok-mark.mark c.args.nodes.now.limit c.go_down.ensures.ok c.go_down.ensures.err c.go_down.ensures.counted c.go_down.ensures.uncounted
