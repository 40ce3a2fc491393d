use Rattle.std.proofs.Common.{◌∙◌}
use Rattle.pricing_laws.proofs.Steps.{first_pushed}
use Rattle.slab_price.proofs.grid.Grid.push_ends.Goals as goal

pub loop-column-preserved : goal.loop-column-preserved
loop-column-preserved c =
    let s = c.args.self.now in
    let next = first_pushed s.groups.now s.ends.now s.heads.now s.step s.width s.fits c.loop-column.table.items c.push_reserved.new.self.items c.loop-column.invariant.table c.loop-column.column c.loop-column-test.true c.loop-column.invariant.size c.push_reserved.ensures.items in
    record { size = next.0; room = c.push_reserved.ensures.capacity ∙ c.loop-column.invariant.room; table = next.1 }
