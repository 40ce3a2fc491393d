use Rattle.std.proofs.Common.{◌≡◌, leb, min, get_or, sym, ap, ◌∙◌, arith}
use Rattle.std.specs.List.{fold}
use Rattle.mill_model.specs.declared.kind.Kind.TheVariants.{New}
use Rattle.mill_model.specs.Columns.{load}
use Rattle.mill_model.specs.Plain.{greatest_size}
use Rattle.slab_filling.proofs.Loads.{filter_same}
use Rattle.slab_lns.proofs.sizes.closed_size.Goals as goal

pub returns-in-New : goal.returns-in-New
returns-in-New c =
    let m = c.args.mill.now in
    let kind : c.args.slab.now.kind ≡ New c.in-New.field-0 = sym c.kind.ensures ∙ c.in-New.is in
    rw kind (c.new_size.ensures.value ∙ ap (fold min (greatest_size m)) (filter_same (leb c.load.result) (leb (load m c.args.slab.now.orders)) m.sizes
    (λ k d h. c.load.ensures (get_or m.sizes k d) (omega (arith, (c.new_size.ensures.limits.sizes k d h).1)))))
