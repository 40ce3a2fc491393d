-- What the readings of certificates answer, and what it means.
use Rattle.std.specs.Prelude.{◌≡◌, ℕ, List, [], None}
use Rattle.mill_model.specs.Mill.{Mill}
use Rattle.mill_model.specs.Plans.{Plan, IsLegal}
use Rattle.mill_model.specs.Fronts.{IsFront, sums_list}
use Rattle.cert_text.specs.Certificates.{Certificate, ShowsFront, ShowsNoPlan, ShowsCut}
use Rattle.cert_text.specs.Certificates.Ending.{Whole as WholeEnding, Cut as CutEnding}
use Rattle.cert_text.specs.Texts.{Spells}
use Rattle.cert_rules.specs.States.Wanted.{All, Cuts}
use Rattle.cert_rules.specs.Verdicts.{LeadToTheFront}
use Rattle.cert_check.specs.Verdicts.{IsBadAt}
use Rattle.cert_keep.specs.declared.kept.CutRead.{CutRead}
use Rattle.cert_keep.specs.declared.kept.CutRead.TheVariants as cuts
use Rattle.cert_keep.specs.declared.kept.CertRead.{CertRead}
use Rattle.cert_keep.specs.declared.kept.CertRead.TheVariants as certs

-- the bytes spell a good cut with these points, or this is their first bad line for a reader of cuts
abbrev pub IsCutRead : Mill → List ℕ → CutRead → Type 0
IsCutRead m bytes (cuts.Head points) = (c : Certificate) × Spells bytes c × ShowsCut m c × (c.points ≡ points)
IsCutRead m bytes (cuts.No line broken) = IsBadAt m Cuts bytes line broken

-- the bytes spell this good certificate, or this is their first bad line
abbrev pub IsCertRead : Mill → List ℕ → CertRead → Type 0
IsCertRead m bytes (certs.Whole version front) =
    let c : Certificate = record { version = version; points = front.points; ending = WholeEnding front.last } in Spells bytes c × ShowsFront m c
IsCertRead m bytes (certs.NoPlan version last) =
    let c : Certificate = record { version = version; points = []; ending = WholeEnding last } in Spells bytes c × ShowsNoPlan m c
IsCertRead m bytes (certs.Cut version head outline) =
    let c : Certificate = record { version = version; points = head; ending = CutEnding outline } in Spells bytes c × ShowsCut m c
IsCertRead m bytes (certs.No line broken) = IsBadAt m All bytes line broken

-- what the reading of a cut means: its points lead to the front
abbrev pub CutMeans : Mill → CutRead → Type 0
CutMeans m (cuts.Head points) = LeadToTheFront m None (sums_list points)
CutMeans m (cuts.No line broken) = Unit {0}

-- what the reading of a certificate means: its points are the Pareto front, no plan is legal, or its points lead to the front
abbrev pub CertMeans : Mill → CertRead → Type 0
CertMeans m (certs.Whole version front) = IsFront m (sums_list front.points)
CertMeans m (certs.NoPlan version last) = (p : Plan) → IsLegal m p → ⊥
CertMeans m (certs.Cut version head outline) = LeadToTheFront m None (sums_list head)
CertMeans m (certs.No line broken) = Unit {0}
