use Rattle.std.proofs.Common.{ap}
use Rattle.mill_model.specs.Mill.{Mill}
use Rattle.slab_front.specs.Owed.{summed_up}
use Rattle.slab_front.proofs.Searching.{made_found, told_plainly}
use Rattle.slab_front.proofs.solve.make.Goals as goal

pub search_front-requires-clause-plain : goal.search_front-requires-clause-plain
search_front-requires-clause-plain c = told_plainly c.in_ok-mill.mill

pub returns-clause-owed : goal.returns-clause-owed
returns-clause-owed c =
    let found = made_found c.args.orders c.args.seed 1000000 c.args.tally.now c.search_front.new.tally c.in_ok-mill.mill c.no_points.result c.in_ok-search.search c.in_ok-mill.ensures c.no_points.ensures c.in_ok-search.ensures.found in
    (found.0, (c.in_ok-search.search, found.1, ap (λ (m : Mill). summed_up m c.in_ok-search.search) c.in_ok-mill.ensures))

pub returns-clause-status : goal.returns-clause-status
returns-clause-status c =
    (made_found c.args.orders c.args.seed 1000000 c.args.tally.now c.search_front.new.tally c.in_ok-mill.mill c.no_points.result c.in_ok-search.search c.in_ok-mill.ensures c.no_points.ensures c.in_ok-search.ensures.found).0
