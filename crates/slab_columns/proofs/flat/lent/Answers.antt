use Rattle.slab_columns.proofs.FlatColumns.{column_at}
use Rattle.slab_columns.proofs.flat.lent.Goals as goal

pub returns : goal.returns
returns c = rw (← c.span_of-end.ensures.end) at (column_at c.args.orders.now c.args.starts.now c.args.id c.span_of-end.result.0 c.span_of-end.ensures.start)
