use Rattle.std.proofs.Common.{List, Option, sym, subst}
use Rattle.mill_model.specs.declared.ask.Ask.{Ask}
use Rattle.mill_model.specs.Marks.{MarkedSteps}
use Rattle.mill_model.specs.Fronts.{Point}
use Rattle.cert_rules.specs.States.Wanted.{All}
use Rattle.cert_keep.specs.declared.kept.CertRead.TheVariants as certs
use Rattle.cert_keep.specs.Building.{Built}
use Rattle.cert_keep.specs.Gathering.{IsBuiltFrom, IsSpelledWhole}
use Rattle.cert_keep.specs.Reads.{IsCertRead}
use Rattle.cert_keep.proofs.Spelling.{cut_spelled, whole_spelled}
use Rattle.cert_keep.proofs.assembly.Assembly.into_certificate.Goals as goal

pub returns-in-Some : goal.returns-in-Some
returns-in-Some c = λ m bytes h.
    subst (λ (ps : List Point). IsCertRead m bytes (certs.Cut c.self.inside.version ps c.into_open_tree.result)) (sym c.new-head.ensures)
    (subst (λ (o : List (Option Ask)). IsCertRead m bytes (certs.Cut c.self.inside.version c.self.inside.points.items o)) (sym c.into_open_tree.ensures)
    (cut_spelled m bytes _ c.in-Some.outline c.in-Some.is (subst (λ (b : Built). IsBuiltFrom m All bytes b) (sym c.self.view_is) h)))

pub returns : goal.returns
returns c = λ m bytes h.
    c.whole_certificate.ensures m bytes
    (subst (λ (ps : List Point). IsSpelledWhole m bytes c.self.inside.version ps c.into_steps-last.result) (sym c.new-head.ensures)
    (subst (λ (s : MarkedSteps). IsSpelledWhole m bytes c.self.inside.version c.self.inside.points.items s) (sym c.into_steps-last.ensures)
    (whole_spelled m bytes _ c.in-None.is (subst (λ (b : Built). IsBuiltFrom m All bytes b) (sym c.self.view_is) h))))
