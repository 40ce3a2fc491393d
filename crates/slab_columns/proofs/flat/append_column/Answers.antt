use Rattle.std.proofs.Common.{length, length-append, ◌∙◌}
use Rattle.slab_columns.proofs.FlatColumns.{columns_of-push, AreLaidOut-push}
use Rattle.slab_columns.specs.declared.flat.Start.{Start}
use Rattle.slab_columns.proofs.flat.append_column.Goals as goal

pub returns-clause-columns : goal.returns-clause-columns
returns-clause-columns c =
    let start : Start = record { kind = c.args.kind; at = c.len-at.result } in
    rw (c.append_orders.ensures, c.push_reserved.ensures.items)
    (columns_of-push c.args.all.now.items c.args.orders.now c.args.starts.now.items start (c.len-at.ensures ∙ c.args.all.now.ok.0) c.requires.laid_out)

pub returns-clause-laid_out : goal.returns-clause-laid_out
returns-clause-laid_out c =
    let start : Start = record { kind = c.args.kind; at = c.len-at.result } in
    rw (c.append_orders.ensures, c.push_reserved.ensures.items, length-append)
    (AreLaidOut-push (length c.args.all.now.items) (length c.args.orders.now) c.args.starts.now.items start (c.len-at.ensures ∙ c.args.all.now.ok.0) c.requires.laid_out)
