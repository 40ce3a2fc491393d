use Rattle.std.proofs.Common.{rules}
use Rattle.slab_closure.specs.Relations.{IsSquare, AreUndecided}
use Rattle.slab_closure.proofs.Starts.{undecided_relations}
use Rattle.slab_closure.proofs.square.Square.reset.Goals as goal

pub returns-clause-relations : goal.returns-clause-relations
returns-clause-relations c =
    let undecided : AreUndecided c.join_each.new.self = search rules in
    let square : IsSquare c.join_each.new.self = rw (← c.self.view_is) c.self.invariant in
    undecided_relations c.join_each.new.self square undecided
