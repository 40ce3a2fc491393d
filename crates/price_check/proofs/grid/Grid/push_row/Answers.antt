use Rattle.std.proofs.Common.{◌∙◌}
use Rattle.pricing_laws.proofs.Steps.{row_pushed}
use Rattle.price_check.proofs.grid.Grid.push_row.Goals as goal

pub loop-column-preserved : goal.loop-column-preserved
loop-column-preserved c =
    let s = c.args.self.now in
    let next =
    row_pushed s.groups.now s.ends.now s.heads.now s.step s.width s.fits c.loop-column.table.items c.push_reserved.new.self.items c.loop-column.invariant.table c.args.at c.loop-column.column c.weight.result c.gain-gain.result c.entry-next.result c.deref.result.now
    c.requires.at c.loop-column-test.true c.loop-column.invariant.size c.deref.ensures.value c.weight.ensures c.gain-gain.ensures c.entry-next.ensures.without c.entry-next.ensures.with c.entry-next.ensures.small c.push_reserved.ensures.items in
    record { size = next.0; room = c.push_reserved.ensures.capacity ∙ c.loop-column.invariant.room; table = next.1 }
