use Rattle.slab_front.proofs.Searching.{found_from}
use Rattle.slab_front.proofs.search.search_front.Goals as goal

pub returns-clause-found : goal.returns-clause-found
returns-clause-found g c =
    found_from (g.S.Starter.told c.args.starter.now) c.args.mill.now c.args.before c.args.limit c.args.tally.now c.sweep.new.tally c.new-nodes.result c.sweep.new.nodes c.in_ok-swept.swept c.opened.result c.bare.result
    c.requires.plain c.new-nodes.ensures c.opened.ensures.value c.bare.ensures.value c.orders-orders.ensures.limits c.requires.head c.requires.limit.1
    c.in_ok-swept.ensures.swept c.in_ok-swept.ensures.made c.in_ok-swept.ensures.within c.in_ok-swept.ensures.plain c.in_ok-swept.ensures.opens c.in_ok-swept.ensures.causes c.bare.ensures.bare
