use Rattle.std.proofs.Common.{◌≡◌, ◌<◌, ◌+◌, ◌++◌, ◌∷◌, [], List, length, refl, sym, subst, ap, arith, ◌∙◌, Contains, length-append}
use Rattle.mill_model.specs.Columns.{Column, IsLegalColumn, column_of}
use Rattle.slab_columns.specs.declared.column.ColId.{ColId}
use Rattle.slab_columns.specs.Flat.{columns_of}
use Rattle.slab_columns.specs.Index.{key_of}
use Rattle.slab_columns.specs.Pool.{most_columns}
use Rattle.slab_columns.specs.Recency.{AreBelow}
use Rattle.slab_columns.proofs.FlatColumns.{length-columns_of, length-starts_push, AreBelow-more}
use Rattle.slab_columns.proofs.Growth.{IsPool-push, IsIndex-push, NotesAlso}
use Rattle.slab_columns.proofs.Places.{slice_get-push}
use Rattle.slab_columns.proofs.pool.Pool.add.Goals as goal

pub invariant_of-self-2 : goal.invariant_of-self-2
invariant_of-self-2 c =
    let orders = c.self.inside.orders.items in
    let starts = c.self.inside.starts.items in
    let columns = columns_of orders starts in
    let column = column_of c.args.kind c.args.orders.now in
    let grown : columns_of c.append_column.new.all.items c.append_column.new.starts.items ≡ columns ++ column ∷ [] = rw (← c.reserve.ensures.items, ← c.reserve-2.ensures.items) c.append_column.ensures.columns in
    let legal : IsLegalColumn c.self.inside.mill column = rw (← c.self.view_is) at c.requires in
    let len : c.len-id.result ≡ length columns = c.len-id.ensures ∙ c.self.inside.starts.ok.0 ∙ sym (length-columns_of orders starts) in
    let room : length columns < most_columns = omega (arith, c.self.invariant.pool.few) in
    let fresh : ¬ Contains columns column = rw (← c.self.view_is) at (let absent : ¬ Contains c.args.self.now.columns column = c.in_default.ensures.none in absent) in
    let also : NotesAlso c.self.inside.index c.note.new.index (key_of column) (length columns) = rw (← len, ← c.key_of-key.ensures) (c.in_ok-note.ensures.ok) in
    let longer : length c.append_column.new.starts.items ≡ length starts + 1 = length-starts_push orders c.append_column.new.all.items starts c.append_column.new.starts.items column grown in
    let Below : List ColId → Type 0 = AreBelow (length c.append_column.new.starts.items) in
    record {
      laid_out = c.append_column.ensures.laid_out;
      pool = rw grown (IsPool-push _ columns column c.self.invariant.pool legal fresh room);
      index = rw grown (IsIndex-push columns c.self.inside.index _ column c.self.invariant.index also);
      room = omega (arith, longer, c.in_ok-reserve-3.ensures.ok, c.self.invariant.room);
      basic = subst Below (sym c.in_ok-reserve-3.ensures.ids) (AreBelow-more (length starts) (length c.append_column.new.starts.items) _ (omega (arith, longer)) c.self.invariant.basic);
    }

pub returns-clause-ok : goal.returns-clause-ok
returns-clause-ok c =
    let orders = c.self.inside.orders.items in
    let starts = c.self.inside.starts.items in
    let columns = columns_of orders starts in
    let column = column_of c.args.kind c.args.orders.now in
    let grown : columns_of c.append_column.new.all.items c.append_column.new.starts.items ≡ columns ++ column ∷ [] = rw (← c.reserve.ensures.items, ← c.reserve-2.ensures.items) c.append_column.ensures.columns in
    let len : c.len-id.result ≡ length columns = c.len-id.ensures ∙ c.self.inside.starts.ok.0 ∙ sym (length-columns_of orders starts) in
    rw (grown, len) (slice_get-push columns column)

pub returns-clause-within : goal.returns-clause-within
returns-clause-within c =
    let orders = c.self.inside.orders.items in
    let starts = c.self.inside.starts.items in
    let columns = columns_of orders starts in
    let column = column_of c.args.kind c.args.orders.now in
    let grown : columns_of c.append_column.new.all.items c.append_column.new.starts.items ≡ columns ++ column ∷ [] = rw (← c.reserve.ensures.items, ← c.reserve-2.ensures.items) c.append_column.ensures.columns in
    let len : c.len-id.result ≡ length columns = c.len-id.ensures ∙ c.self.inside.starts.ok.0 ∙ sym (length-columns_of orders starts) in
    rw (grown, len, length-append) (omega arith)

pub returns-clause-grown : goal.returns-clause-grown
returns-clause-grown c =
    let orders = c.self.inside.orders.items in
    let starts = c.self.inside.starts.items in
    let columns = columns_of orders starts in
    let column = column_of c.args.kind c.args.orders.now in
    let grown : columns_of c.append_column.new.all.items c.append_column.new.starts.items ≡ columns ++ column ∷ [] = rw (← c.reserve.ensures.items, ← c.reserve-2.ensures.items) c.append_column.ensures.columns in
    rw (← c.self.view_is) (record { mill = refl; more = column ∷ []; columns = grown })
