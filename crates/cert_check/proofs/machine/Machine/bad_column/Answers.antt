use Rattle.std.proofs.Common.{◌≡◌, length, ap, arith}
use Rattle.mill_model.specs.Columns.{Column}
use Rattle.cert_slabs.proofs.Rising.{rises_few}
use Rattle.cert_check.proofs.machine.Machine.bad_column.Goals as goal

pub returns-clause-few : goal.returns-clause-few
returns-clause-few c =
    let found : Column = record { kind = c.bad_column.result.0; orders = c.bad_column.result.1.now } in
    let same : c.requires.column ≡ found = cc (c.requires.bad, c.bad_column.ensures) in
    omega (arith, ap (λ (x : Column). length x.orders) same, rises_few 0 (length c.args.self.now.mill.now.orders) c.requires.column.orders c.requires.rise (omega arith), c.orders-orders.ensures.limits.order_count)
