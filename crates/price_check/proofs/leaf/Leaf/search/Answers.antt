use Rattle.std.proofs.Common.{ℕ, List, length, subst, ◌∙◌}
use Rattle.pricing_laws.specs.Colours.{IsOfSet}
use Rattle.pricing_laws.specs.Parts.{left_of}
use Rattle.price_check.specs.Finds.{IsAnswer}
use Rattle.price_check.specs.Leaves.{problem_of}
use Rattle.price_check.proofs.Answering.{answer_all}
use Rattle.price_check.proofs.leaf.Leaf.search.Goals as goal

-- no column of so many colours taken and of some of those left exceeds, or one was found
abbrev IsSearched : goal.After-search_sets → List ℕ → ℕ → ℕ → Type 0
IsSearched c taken rank left = IsAnswer (problem_of c.args.self.now) c.search_sets.new.picks.orders.items c.search_sets.result (IsOfSet c.args.self.now.mill.now taken (left_of c.fill_frame.new.frame.ranking.items rank) left)

pub returns-clause-none : goal.returns-clause-none
returns-clause-none c =
    let t = c.args.self.now in
    let f = c.fill_frame.new.frame in
    answer_all (problem_of t) f.worths.items f.ranking.items c.search_sets.new.picks.orders.items c.search_sets.result c.fill_frame.ensures.frame.ranking
    (subst (λ (xs : List ℕ). IsSearched c xs (length f.ranking.items) t.mill.now.colour_limit) c.clear.ensures.items
    (subst (λ (rank : ℕ). IsSearched c c.clear.new.self.items rank t.mill.now.colour_limit) (c.len-rank.ensures ∙ f.ranking.ok.0)
    (subst (IsSearched c c.clear.new.self.items c.len-rank.result) c.colour_limit-limit.ensures.value c.search_sets.ensures.answer)))
