use Rattle.std.proofs.Common.{rules, ◌≡◌, ◌≤◌, sym, subst, arith}
use Rattle.mill_model.specs.Columns.{loss_of, column_of}
use Rattle.slab_master.specs.Given.{IsColumn}
use Rattle.slab_relax.specs.Rows.{row_count, entries_of}
use Rattle.slab_relax.proofs.Putting.{put_together, is_master_column}
use Rattle.slab_relax.proofs.entries.put_entries.Goals as goal

pub returns-clause-column : goal.returns-clause-column
returns-clause-column c =
    let value : c.put_count.new.entries.items ≡ entries_of c.args.mill.now c.args.limits (column_of c.args.kind c.args.orders.now) = search (rules, put_together) in
    let small : loss_of c.args.mill.now (column_of c.args.kind c.args.orders.now) ≤ 10000 = omega (arith, c.loss_of-loss.ensures.value, c.loss_of-loss.ensures.small c.requires.fits.kind) in
    subst (IsColumn (row_count c.args.mill.now)) (sym value) (is_master_column c.args.mill.now c.args.limits (column_of c.args.kind c.args.orders.now) c.requires small)
