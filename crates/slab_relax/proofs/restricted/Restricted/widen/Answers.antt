use Rattle.std.proofs.Common.{rules, ◌≡◌, ◌++◌, ◌∷◌, [], length}
use Rattle.mill_model.specs.Columns.{Column, column_of}
use Rattle.slab_relax.proofs.Allowed.{master_grows, ids_grow}
use Rattle.slab_relax.proofs.restricted.Restricted.widen.Goals as goal

pub returns-in_ok-put-in-Ok-clause-restricted : goal.returns-in_ok-put-in-Ok-clause-restricted
returns-in_ok-put-in-Ok-clause-restricted c =
    let column : Column = column_of c.args.found.now.kind c.args.found.now.orders in
    let columns : c.add.new.self.columns ≡ c.args.pool.now.columns ++ column_of c.args.found.now.kind c.args.found.now.orders ∷ [] = search rules in
    let last : c.in-Ok.id.0 ≡ length c.args.pool.now.columns = search rules in
    rw columns (record {
      given = master_grows c.args.node.now.mill.now c.args.node.now.limits c.args.node.now.decisions.now.list c.args.pool.now.columns (column_of c.args.found.now.kind c.args.found.now.orders) c.args.self.now.master c.put.new.self.master c.requires.agrees c.requires.restricted.given (search rules);
      numbers = rw c.in_ok-put-in-Ok.ensures.ids (ids_grow c.args.node.now.decisions.now.list c.args.pool.now.columns (column_of c.args.found.now.kind c.args.found.now.orders) c.args.self.now.ids.items c.in-Ok.id c.requires.agrees last c.requires.restricted.numbers);
    })
