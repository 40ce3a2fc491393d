use Rattle.std.proofs.Common.{List, [], ◌∷◌, map, sym, ap, ◌∙◌, zero-add}
use Rattle.std.specs.List.{range_with_len}
use Rattle.std.proofs.lemmas.List.FromFn.{map-range_with_len_more}
use Rattle.mill_model.specs.Columns.{Column}
use Rattle.mill_model.specs.Plans.{slab}
use Rattle.cert_text.specs.Lines.{slab_line}
use Rattle.cert_text.specs.Texts.{lines_text}
use Rattle.line_out.proofs.Putting.{puts_then}
use Rattle.line_out.proofs.Loops.{puts_same}
use Rattle.cert_write.proofs.Lines.{mapped_by_element}
use Rattle.cert_write.proofs.slabs.put_slabs.Goals as goal

pub loop-k-preserved : goal.loop-k-preserved
loop-k-preserved g c =
    let plan = c.args.plan.now in
    let k = c.loop-k.k in
    puts_same _ _ _ _
    (sym (ap (λ (cs : List Column). lines_text (map slab_line cs)) (map-range_with_len_more (slab plan) 0 k k (zero-add k))
    ∙ mapped_by_element slab_line (map (slab plan) (range_with_len 0 k)) (slab plan k ∷ [])))
    (puts_then _ _ _ _ _ c.loop-k.invariant c.put_slab.ensures)
