use Rattle.std.proofs.Common.{◌∙◌, length, sym, ap, subst}
use Rattle.std.proofs.lemmas.Bool.{eqb-true, eqb-false}
use Rattle.mill_model.specs.Fronts.{Whole}
use Rattle.cert_keep.specs.declared.kept.CertRead.TheVariants as certs
use Rattle.cert_keep.specs.Reads.{IsCertRead}
use Rattle.cert_keep.proofs.Spelling.{none_from, some_from, no_plan_spelled, front_spelled}
use Rattle.cert_keep.proofs.assembly.whole_certificate.Goals as goal

pub returns-then-is_empty : goal.returns-then-is_empty
returns-then-is_empty c = λ m bytes h.
    no_plan_spelled m bytes c.args.version c.args.head c.args.last (none_from c.args.head (sym (ap length c.points.ensures) ∙ eqb-true (length c.points.result.now) 0 (sym c.is_empty.ensures ∙ c.if-is_empty.true))) h

pub returns-else-is_empty : goal.returns-else-is_empty
returns-else-is_empty c = λ m bytes h.
    subst (λ (w : Whole). IsCertRead m bytes (certs.Whole c.args.version w)) (sym c.new.ensures)
    (front_spelled m bytes c.args.version c.args.head c.args.last (some_from (length c.args.head) (λ none. eqb-false (length c.points.result.now) 0 (sym c.is_empty.ensures ∙ c.if-is_empty.false) (ap length c.points.ensures ∙ none))) h)
