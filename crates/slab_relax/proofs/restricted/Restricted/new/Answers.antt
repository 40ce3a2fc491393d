use Rattle.std.proofs.Common.{◌≡◌, ◌<◌, ◌+◌, ◌++◌, ◌∷◌, [], length, take, sym, ◌∙◌, arith}
use Rattle.std.proofs.lemmas.List.{length-take}
use Rattle.mill_model.specs.Columns.{lent_column}
use Rattle.slab_relax.proofs.Allowed.{one_more, master_grows, master_stays, ids_grow, ids_stay}
use Rattle.slab_relax.proofs.restricted.Restricted.new.Goals as goal
use Rattle.slab_relax.proofs.restricted.Restricted.new.Goals.{then-allows+in_ok-put, else-allows}

pub loop-i-preserved : goal.loop-i-preserved
loop-i-preserved c =
    let inside : c.loop-i.i < length c.args.pool.now.columns = omega (arith, c.loop-i-test.true, c.len-i-end.ensures.value) in
    let more : take (c.loop-i.i + 1) c.args.pool.now.columns ≡ take c.loop-i.i c.args.pool.now.columns ++ lent_column c.column-column.result ∷ [] = one_more c.args.pool.now.columns c.loop-i.i (lent_column c.column-column.result) inside c.column-column.ensures.value in
    elim c.if-allows.branch [
      | then-allows+in_ok-put w ↦ rw more (record {
        given = master_grows c.args.node.now.mill.now c.args.node.now.limits c.args.node.now.decisions.now.list (take c.loop-i.i c.args.pool.now.columns) (lent_column c.column-column.result) c.loop-i.restricted.master c.if-allows.restricted.master (sym c.allows.ensures ∙ w.if-allows.true) c.loop-i.invariant.given (rw w.restricted-is w.in_ok-put.ensures.master);
        numbers = rw (w.restricted-is, w.in_ok-put.ensures.ids) (ids_grow c.args.node.now.decisions.now.list (take c.loop-i.i c.args.pool.now.columns) (lent_column c.column-column.result) c.loop-i.restricted.ids.items (record { 0 = c.loop-i.i }) (sym c.allows.ensures ∙ w.if-allows.true) (omega (arith, length-take c.loop-i.i c.args.pool.now.columns)) c.loop-i.invariant.numbers);
      })
      | else-allows w ↦ rw (more, w.restricted-is) (record {
        given = master_stays c.args.node.now.mill.now c.args.node.now.limits c.args.node.now.decisions.now.list (take c.loop-i.i c.args.pool.now.columns) (lent_column c.column-column.result) c.loop-i.restricted.master (sym c.allows.ensures ∙ w.if-allows.false) c.loop-i.invariant.given;
        numbers = ids_stay c.args.node.now.decisions.now.list (take c.loop-i.i c.args.pool.now.columns) (lent_column c.column-column.result) c.loop-i.restricted.ids.items (sym c.allows.ensures ∙ w.if-allows.false) c.loop-i.invariant.numbers;
      })
    ]
