use Rattle.std.proofs.Common.{sym, ap}
use Rattle.mill_model.specs.Plans.{is_new}
use Rattle.mill_model.proofs.Bars.{new_bars_none}
use Rattle.mill_model.proofs.mill.Mill.has_barred.Goals as goal

pub returns-in_default : goal.returns-in_default
returns-in_default c = sym (new_bars_none c.args.self.now c.args.kind c.args.orders.now (ap is_new c.in_default.is))
