use Rattle.std.proofs.Common.{◌≡◌, true, sym, ap, ◌∙◌}
use Rattle.std.proofs.lemmas.List.Folds.{list_any_at}
use Rattle.mill_model.specs.Columns.{Column, is_old}
use Rattle.slab_filling.proofs.Counts.{any-map}
use Rattle.slab_filling.proofs.opening.is_open.Goals as goal

pub returns-then-is_old : goal.returns-then-is_old
returns-then-is_old c =
    let slabs = c.args.slabs.now in
    let here : is_old c.args.surplus c.slab-item.result.kind ≡ true = ap (is_old c.args.surplus) (sym c.kind.ensures) ∙ sym c.if-is_old.ensures in
    sym (any-map (is_old c.args.surplus) (λ (s : Column). s.kind) slabs
    ∙ list_any_at (λ (s : Column). is_old c.args.surplus s.kind) slabs c.loop-slab.slab-index c.slab-item.result c.loop-slab-test.true (ap (λ (s : Column). is_old c.args.surplus s.kind) (sym c.slab-item.is) ∙ here))
