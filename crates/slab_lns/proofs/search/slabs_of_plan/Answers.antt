use Rattle.std.proofs.Common.{List, [], ◌∷◌, ◌++◌, sym, ap₂, ◌∙◌}
use Rattle.mill_model.specs.Columns.{Column}
use Rattle.mill_model.specs.Plans.{slab}
use Rattle.slab_filling.proofs.Ranges.{map_range_more}
use Rattle.slab_lns.proofs.search.slabs_of_plan.Goals as goal

pub loop-k-preserved : goal.loop-k-preserved
loop-k-preserved c =
    c.in_ok-push.ensures.items ∙ ap₂ (λ (xs : List Column) (x : Column). xs ++ x ∷ []) c.loop-k.invariant c.in_ok-slab_of.ensures
    ∙ sym (map_range_more (slab c.args.plan.now) c.loop-k.k)
