use Rattle.std.proofs.Common.{ℕ, List, length, subst, ◌∙◌}
use Rattle.pricing_laws.specs.Colours.{IsOfSet}
use Rattle.pricing_laws.specs.Parts.{left_of}
use Rattle.pricing_laws.specs.Problems.{Problem}
use Rattle.slab_price.specs.Bests.{IsImproved}
use Rattle.slab_price.specs.Excess.{IsGreatest}
use Rattle.slab_price.proofs.Improving.{improved_all, improved_first, none_found, worst_found}
use Rattle.slab_price.proofs.pricing.worst.Goals as goal

pub invariant_of-task : goal.invariant_of-task
invariant_of-task c = record { asked = record { limits = c.orders-count.ensures.limits; together = c.requires.together; sign = c.requires.lambda } }

abbrev problem : goal.After-drop-frame-11 → Problem
problem c = record { mill = c.args.mill.now; decisions = c.args.decisions.now.list; prices = c.args.prices.now }

abbrev IsSearched : goal.After-drop-frame-11 → List ℕ → ℕ → ℕ → Type 0
IsSearched c taken rank left =
    let f = c.in_ok-frame.frame in
    IsImproved (problem c) c.in_ok-picks.picks.best c.search_sets.new.picks.best (IsOfSet c.args.mill.now taken (left_of f.ranking.items rank) left)

-- all columns are gone through
all : (c : goal.After-drop-frame-11) → IsGreatest c.args.mill.now c.args.decisions.now.list c.args.prices.now c.search_sets.new.picks.best.excess
all c =
    let f = c.in_ok-frame.frame in
    improved_all (problem c) f.worths.items f.ranking.items c.in_ok-picks.picks.best c.search_sets.new.picks.best c.in_ok-frame.ensures.ranking
    (subst (λ (xs : List ℕ). IsSearched c xs (length f.ranking.items) c.args.mill.now.colour_limit) c.new-space.ensures
    (subst (λ rank. IsSearched c c.new-space.result.colours.items rank c.args.mill.now.colour_limit) (c.len-2.ensures ∙ f.ranking.ok.0)
    (subst (IsSearched c c.new-space.result.colours.items c.len-2.result) c.colour_limit.ensures.value c.search_sets.ensures.improved)))

pub returns-clause-some : goal.returns-clause-some
returns-clause-some c =
    worst_found (problem c) c.search_sets.new.picks.best c.found.result (improved_first (problem c) c.in_ok-picks.picks.best c.search_sets.new.picks.best _ c.in_ok-picks.ensures.none c.search_sets.ensures.improved) (all c) c.found.ensures.some c.found.ensures.above

pub returns-clause-none : goal.returns-clause-none
returns-clause-none c = none_found (problem c) c.search_sets.new.picks.best c.found.result (all c) c.found.ensures.none
