use Rattle.slab_closure.specs.Relations.{Relations}
use Rattle.slab_closure.proofs.Squares.{set_becomes}
use Rattle.slab_closure.proofs.square.Square.set.Goals as goal

pub returns : goal.returns
returns c =
    let old : Relations = record { count = c.self.inside.count; slabs = c.self.inside.slabs; cells = c.self.inside.cells.items } in
    rw (← c.self.view_is)
    (set_becomes old c.args.x c.args.y c.args.relation c.self.invariant (rw (← c.self.view_is) at c.requires.x) (rw (← c.self.view_is) at c.requires.y))
