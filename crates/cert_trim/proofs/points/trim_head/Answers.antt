use Rattle.std.proofs.Common.{◌≡◌, List, [], None, sym, subst, ◌∙◌, append-nil, arith}
use Rattle.mill_model.specs.Fronts.{Point}
use Rattle.cert_trim.specs.Certificates.{AreTrimmedFrom}
use Rattle.std.proofs.lemmas.List.{nil_from_length}
use Rattle.cert_trim.proofs.points.trim_head.Goals as goal

pub returns-clause-trimmed : goal.returns-clause-trimmed
returns-clause-trimmed c =
    let nothing : c.loop-point.point-iterator.rest.items ≡ [] = nil_from_length c.loop-point.point-iterator.rest.items (omega (arith, c.in-None.ensures.steps.0, c.loop-point.point-iterator.rest.ok.0)) in
    subst (AreTrimmedFrom c.args.mill.now None c.args.head) (append-nil c.loop-point.points.items ∙ sym c.new.ensures)
    (c.loop-point.invariant.so_far [] (subst (λ (ps : List Point). AreTrimmedFrom c.args.mill.now c.loop-point.before ps []) (sym nothing) tt))
