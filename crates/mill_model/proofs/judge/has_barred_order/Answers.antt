use Rattle.std.proofs.Common.{refl, sym}
use Rattle.mill_model.specs.declared.kind.Kind.TheVariants.{New}
use Rattle.mill_model.specs.Plans.{places_of}
use Rattle.mill_model.proofs.Bars.{new_bars_none}
use Rattle.mill_model.proofs.judge.has_barred_order.Goals as goal

pub returns-in-New : goal.returns-in-New
returns-in-New c = rw c.in-New.is (sym (new_bars_none c.args.mill.now (New c.in-New.field-0) (places_of c.args.k 0 c.args.place.now) refl))
