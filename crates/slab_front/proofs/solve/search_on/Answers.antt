use Rattle.std.proofs.Common.{◌≡◌, IfOk, subst}
use Rattle.slab_sweep.specs.Openings.{Telling}
use Rattle.slab_front.specs.Searched.{IsSearched, status_of}
use Rattle.slab_front.proofs.Searching.{told_after, same_told}
use Rattle.slab_front.proofs.solve.search_on.Goals as goal

pub search_front-requires-clause-plain : goal.search_front-requires-clause-plain
search_front-requires-clause-plain c = told_after c.new-starter.result.rounds c.new-starter.result.seed c.args.mill.now c.orders-orders.ensures.limits

pub returns-clause-found : goal.returns-clause-found
returns-clause-found c =
    let rounds : c.new-starter.result.rounds ≡ c.args.how.rounds = cc in
    let seed : c.new-starter.result.seed ≡ c.args.how.seed = cc in
    subst (λ (told : Telling). IfOk c.search_front.result (λ s. IsSearched told c.args.mill.now c.args.before c.args.how.nodes c.args.tally.now c.search_front.new.tally (status_of s) s))
    (same_told c.new-starter.result.rounds c.new-starter.result.seed c.args.how.rounds c.args.how.seed rounds seed) c.search_front.ensures.found
