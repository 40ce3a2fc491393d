use Rattle.std.proofs.Common.{◌≡◌, ℕ, List, [], length, subst, ◌∙◌}
use Rattle.pricing_laws.specs.Choices.{IsChoice}
use Rattle.pricing_laws.specs.Colours.{AreOf}
use Rattle.pricing_laws.specs.Parts.{left_of}
use Rattle.pricing_laws.proofs.Colours.{column_choice}
use Rattle.slab_price.specs.Bests.{IsImproved}
use Rattle.pricing_laws.specs.Searches.{whole}
use Rattle.slab_price.specs.Tasks.{problem_of}
use Rattle.slab_price.proofs.Improving.{improved_less}
use Rattle.slab_price.proofs.search.Search.walk_queue.Goals as goal

pub returns-clause-improved : goal.returns-clause-improved
returns-clause-improved c =
    let s = c.args.self.now in
    let q = problem_of s.task in
    let heads : List ℕ = s.frame.now.groups.heads in
    let queue : List ℕ = c.args.queue.now.heads.items in
    let all : c.len.result ≡ length queue = c.len.ensures ∙ c.args.queue.now.heads.ok.0 in
    let improved : IsImproved q c.args.picks.now.best c.walk.new.picks.best (IsChoice heads [] (whole queue)) =
    subst (λ (k : ℕ). IsImproved q c.args.picks.now.best c.walk.new.picks.best (IsChoice heads [] (left_of queue k))) all
    (subst (λ (xs : List ℕ). IsImproved q c.args.picks.now.best c.walk.new.picks.best (IsChoice heads xs (left_of queue c.len.result))) c.requires.chosen c.walk.ensures.improved) in
    improved_less q c.args.picks.now.best c.walk.new.picks.best (IsChoice heads [] (whole queue)) (λ d. AreOf q.mill c.args.colours.now d.orders)
    (λ d allowed of. column_choice q heads s.framed.groups.heads s.framed.groups.room.heads d c.args.colours.now (whole queue) allowed of c.requires.queue.groups) improved
